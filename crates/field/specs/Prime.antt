-- Document 01, "Field and vectors": "q is 2, 7, 31 or 251, all prime."
use Rattle.std.specs.Prelude.{ℕ, ◌<◌, ◌≡◌, ◌⊎◌}
use Rattle.std.specs.Int.{◌∣◌}

-- a number above 1 that only 1 and itself divide
pub record Prime (p : ℕ) : Type 0 where
  pub above_one : 1 < p
  pub divisors : (d : ℕ) → d ∣ p → (d ≡ 1) ⊎ (d ≡ p)
