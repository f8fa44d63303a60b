-- The four bytes, each of its weight. Assumes nothing.
use mathlib.Core.Path.{◌≡◌, ap, ◌∙◌}
use Prim.Native.Nat.{ℕ, ◌+◌, ◌*◌}
use native.Mathlib.Omega.{arith}
use Rattle.std.specs.Int.{from_le_bytes}
use Rattle.slices.specs.Slices.{◌!◌, number, tabulate}
use Rattle.slices.proofs.number.Goals as goal

weighed : (a b c d : ℕ) → a + b * 256 + c * 65536 + d * 16777216 ≡ a + 256 * b + 65536 * c + 16777216 * d
weighed a b c d = omega arith

pub returns : goal.returns
unfolding number tabulate
returns c =
    let l = c.args.s.now in
    c.from_le_bytes.ensures ∙ ap (from_le_bytes mir.Syntax.w32) c.bytes_at.ensures ∙ weighed (l ! 0) (l ! 1) (l ! 2) (l ! 3)
