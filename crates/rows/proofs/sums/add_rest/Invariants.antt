-- The loop's invariant: the sum has grown by the first i products, each at most 255 times 255. Assumes nothing.
use Prim.Native.Nat.{◌+◌, ◌≤◌, ◌*◌}
use mathlib.Core.Path.{◌≡◌}
use Rattle.field.specs.Row.{products}
use Rattle.rows.proofs.sums.add_rest.Given as goal

abbrev pub invariant-loop-i : goal.invariant-loop-i
invariant-loop-i l = (l.whole ≤ l.others + 65025 * l.i) × (l.whole ≡ l.others + products l.a l.b l.i)
