-- Where labels stand among others. Assumes nothing.
use Prim.Native.Nat.{ℕ, ◌+◌, ◌-◌, ◌*◌, ◌≤◌}
use native.Mathlib.Nat.{mul-le-mul, le_refl}
use native.Mathlib.Omega.{arith}

-- a count of 32 bits and a byte
pub cards_fit : (count each : ℕ) → count ≤ 4294967295 → each ≤ 255 → count * each ≤ 1095216660225
cards_fit count each h k = mul-le-mul h k

-- the label before stands in the bytes too
pub before_it : (i each n : ℕ) → i * each + 10 ≤ n → (i - 1) * each + 10 ≤ n
before_it i each n inside =
    let less : i - 1 ≤ i = omega arith in
    let product : (i - 1) * each ≤ i * each = mul-le-mul less (le_refl each) in
    omega (arith, inside, product)
