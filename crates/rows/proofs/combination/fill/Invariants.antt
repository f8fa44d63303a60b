-- The loop's invariant: the places before `place` are filled. Assumes nothing.
use Prim.Native.Nat.{ℕ, ◌<◌}
use mathlib.Core.Path.{◌≡◌}
use lib.ListN.{length}
use Rattle.slices.specs.Slices.{◌!◌}
use Rattle.rows.proofs.combination.fill.Given as goal

abbrev pub invariant-loop-place : goal.invariant-loop-place
invariant-loop-place g l =
    (length l.out ≡ length l.initial.out) × ((i : ℕ) → i < l.place → goal.F-post g l.f (l.x ! i) (l.y ! i) (l.out ! i))
