-- The functions whose names the code can't write, as the code forms them. Assumes nothing.
use Rattle.std.specs.Prelude.{ℕ, ◌+◌, ◌/◌, ◌%◌, ◌≡◌, bit_xor}
use mathlib.Core.Path.{refl}
use Rattle.sha256_block.specs.Words.{◌⊞◌, ROTR, Σ0, Σ1, σ0, σ1, SHR}

pub upper_sigma0_is : (x : ℕ) → bit_xor (bit_xor (ROTR 2 x) (ROTR 13 x)) (ROTR 22 x) ≡ Σ0 x
unfolding Σ0
upper_sigma0_is x = refl

pub upper_sigma1_is : (x : ℕ) → bit_xor (bit_xor (ROTR 6 x) (ROTR 11 x)) (ROTR 25 x) ≡ Σ1 x
unfolding Σ1
upper_sigma1_is x = refl

pub lower_sigma0_is : (x : ℕ) → bit_xor (bit_xor (ROTR 7 x) (ROTR 18 x)) (x / 8) ≡ σ0 x
unfolding σ0 SHR
lower_sigma0_is x = refl

pub lower_sigma1_is : (x : ℕ) → bit_xor (bit_xor (ROTR 17 x) (ROTR 19 x)) (x / 1024) ≡ σ1 x
unfolding σ1 SHR
lower_sigma1_is x = refl

pub sum_is : (x y : ℕ) → (x + y) % 4294967296 ≡ x ⊞ y
unfolding ◌⊞◌
sum_is x y = refl
