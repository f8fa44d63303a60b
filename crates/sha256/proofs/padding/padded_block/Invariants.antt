-- `padding::padded_block` meets its contract. The loop's invariant: the first j bytes of the array are the padded message's from
-- 64i on.
use Prim.Native.Nat.{◌+◌, ◌*◌}
use lib.ListN.{get_or}
use Rattle.sha256.specs.Padding.{pad}
use Rattle.slices.proofs.Tabulate.{Filled}
use Rattle.sha256.proofs.padding.padded_block.Given as goal

abbrev pub invariant-loop-j : goal.invariant-loop-j
invariant-loop-j l = Filled (λ k. get_or (pad l.message) (64 * l.i + k) 0) 64 64 l.b l.j
