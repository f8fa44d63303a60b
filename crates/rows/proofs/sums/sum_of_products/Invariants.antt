-- The loop's invariant: the sums are together that of the products of the blocks before this one. Assumes nothing.
use Prim.Native.Nat.{◌≤◌, ◌*◌}
use mathlib.Core.Path.{◌≡◌}
use Rattle.std.specs.Prelude.{sum}
use Rattle.field.specs.Row.{products}
use Rattle.rows.proofs.sums.sum_of_products.Given as goal

abbrev pub invariant-loop-block : goal.invariant-loop-block
invariant-loop-block l = (sum l.sums ≤ 65025 * (16 * l.block)) × (sum l.sums ≡ products l.a l.b (16 * l.block))
