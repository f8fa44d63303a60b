-- The loop's invariant: the sums have grown by the first k products, each at most 255 times 255. Assumes nothing.
use Prim.Native.Nat.{◌+◌, ◌≤◌, ◌*◌}
use mathlib.Core.Path.{◌≡◌}
use lib.ListN.{length}
use Rattle.std.specs.Prelude.{sum}
use Rattle.field.specs.Row.{products}
use Rattle.rows.proofs.sums.add_products.Given as goal

abbrev pub invariant-loop-k : goal.invariant-loop-k
invariant-loop-k l =
    (length l.sums ≡ 16) × (sum l.sums ≤ sum l.initial.sums + 65025 * l.k) ×
    (sum l.sums ≡ sum l.initial.sums + products l.a l.b l.k)
