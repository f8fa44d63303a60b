-- The bytes of the lowest 32 bits. Assumes nothing.
use mathlib.Core.Path.{◌≡◌, ap, ◌∙◌}
use Prim.Native.Nat.{ℕ, ◌/◌, ◌%◌}
use mathlib.Core.List.{[], ◌∷◌}
use native.Mathlib.Omega.{arith}
use lib.ListN.{length}
use Rattle.std.specs.Int.{to_le_bytes}
use Rattle.slices.specs.Slices.{word}
use Rattle.slices.proofs.Words.{length-word}
use Rattle.slices.proofs.word.Goals as goal

low_bytes : (k : ℕ) → to_le_bytes mir.Syntax.w32 (k % 4294967296) ≡ word k
unfolding word
low_bytes k =
    let e0 : k % 4294967296 % 256 ≡ k % 256 = omega arith in
    let e1 : k % 4294967296 / 256 % 256 ≡ k / 256 % 256 = omega arith in
    let e2 : k % 4294967296 / 65536 % 256 ≡ k / 65536 % 256 = omega arith in
    let e3 : k % 4294967296 / 16777216 % 256 ≡ k / 16777216 % 256 = omega arith in
    λ i. e0 i ∷ e1 i ∷ e2 i ∷ e3 i ∷ []

pub returns : goal.returns
returns c =
    let e = c.to_le_bytes.ensures ∙ low_bytes c.args.k in (e, ap length e ∙ length-word c.args.k)
