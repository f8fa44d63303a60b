-- How long a part is. Assumes nothing.
use Prim.Native.Nat.{ℕ, ◌≤◌}
use mathlib.Core.Path.{◌≡◌}
use mathlib.Core.List.{List}
use native.Mathlib.Omega.{arith}
use lib.ListN.{length, take, drop, length-take}

-- what there is of a part is no longer than the whole
pub part_short : (l p : List ℕ) (k most : ℕ) → p ≡ take k (drop 0 l) → length l ≡ most → length p ≤ most
part_short l p k most is long = rw (is, length-take k (drop 0 l)) (omega (arith, long))
