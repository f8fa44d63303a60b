-- What there is of the part is copied over zeros. Assumes nothing.
use mathlib.Core.Path.{ap}
use mathlib.Core.List.{List, ◌++◌}
use lib.ListN.{length, drop, replicate}
use Prim.Native.Nat.{ℕ}
use Rattle.slices.proofs.Parts.{copied_part}
use Rattle.slices.proofs.bytes_at.Goals as goal

pub returns : goal.returns
returns g c =
    copied_part c.args.s.now c.part-found.result.now _ c.args.at g.row.N c.part-found.ensures
    (ap (λ (l : List ℕ). l ++ drop (length c.part-found.result.now) (replicate {A = ℕ} g.row.N 0)) c.copy_from_slice.ensures.after)
