-- The fold of the larger of two. Assumes nothing.
use Prim.Native.Nat.{max}
use mathlib.Core.Path.{◌≡◌, ◌∙◌}
use native.Mathlib.Omega.{arith}
use Rattle.std.proofs.Common.{rules}
use Rattle.std.specs.List.{fold}
use Rattle.field.proofs.Rows.{fold-largest}
use Rattle.field.proofs.row.largest_of.Goals as goal

pub returns : goal.returns
returns c =
    let folded : c.fold.result ≡ fold (λ a x. max a x) 0 c.args.s.now = search rules in folded ∙ fold-largest 0 c.args.s.now ∙ omega arith
