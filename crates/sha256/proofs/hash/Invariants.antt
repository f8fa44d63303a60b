-- `hash` meets its contract. The loop's invariant: the front of the array holds the bytes of the first i words of the hash value.
use mathlib.Core.Path.{◌≡◌}
use Prim.Native.Nat.{◌*◌}
use lib.ListN.{length, take}
use Rattle.sha256.specs.Sha256.{joined}
use Rattle.sha256.proofs.hash.Given as goal

abbrev pub invariant-loop-i : goal.invariant-loop-i
invariant-loop-i l = (length l.out ≡ 32) × (take (4 * l.i) l.out ≡ joined (take l.i l.w))
