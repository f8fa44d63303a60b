-- The bytes before i are those of their characters. Assumes nothing.
use Prim.Native.Nat.{ℕ, ◌<◌}
use mathlib.Core.Path.{◌≡◌}
use lib.ListN.{length}
use Rattle.slices.specs.Slices.{◌!◌}
use Rattle.iccid.specs.Iccid.{byte_from}
use Rattle.iccid.proofs.bytes_from.Given as goal

abbrev pub invariant-loop-i : goal.invariant-loop-i
invariant-loop-i l = (length l.bytes ≡ 10) × ((k : ℕ) → k < l.i → l.bytes ! k ≡ byte_from l.iccid k)
