-- The loop's invariant: what is held has the last bit of the sum of the products so far. Assumes nothing.
use Prim.Native.Nat.{◌%◌}
use mathlib.Core.Path.{◌≡◌}
use lib.ListN.{length}
use Rattle.field.specs.Row.{products}
use Rattle.rows.proofs.products.parity.Given as goal

abbrev pub invariant-loop-x : goal.invariant-loop-x
invariant-loop-x l = l.bits % 2 ≡ products l.a l.b (length l.yielded) % 2
