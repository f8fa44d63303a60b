-- The operations on 32-bit words and the functions of SHA-256 in FIPS 180-4. A word is a number below 2^32.
use Rattle.std.specs.Prelude.{ℕ, ◌+◌, ◌-◌, ◌*◌, ◌/◌, ◌%◌, ◌^◌, bit_and, bit_or, bit_xor}

infixl 60 ◌⊞◌
-- 3.2: addition modulo 2^32
unfoldable pub ◌⊞◌ : ℕ → ℕ → ℕ
x ⊞ y = (x + y) % 2 ^ 32

-- 3.2: the right shift by n bits
unfoldable pub SHR : ℕ → ℕ → ℕ
SHR n x = x / 2 ^ n

-- 3.2: the rotation right by n bits, a right shift by n and a left shift by 32 - n
unfoldable pub ROTR : ℕ → ℕ → ℕ
ROTR n x = bit_or (x / 2 ^ n) (x * 2 ^ (32 - n) % 2 ^ 32)

-- 4.1.2, (4.2); the complement of a word is what it lacks of 2^32 - 1
unfoldable pub Ch : ℕ → ℕ → ℕ → ℕ
Ch x y z = bit_xor (bit_and x y) (bit_and (2 ^ 32 - 1 - x) z)

-- 4.1.2, (4.3)
unfoldable pub Maj : ℕ → ℕ → ℕ → ℕ
Maj x y z = bit_xor (bit_xor (bit_and x y) (bit_and x z)) (bit_and y z)

-- 4.1.2, (4.4)
unfoldable pub Σ0 : ℕ → ℕ
Σ0 x = bit_xor (bit_xor (ROTR 2 x) (ROTR 13 x)) (ROTR 22 x)

-- 4.1.2, (4.5)
unfoldable pub Σ1 : ℕ → ℕ
Σ1 x = bit_xor (bit_xor (ROTR 6 x) (ROTR 11 x)) (ROTR 25 x)

-- 4.1.2, (4.6)
unfoldable pub σ0 : ℕ → ℕ
σ0 x = bit_xor (bit_xor (ROTR 7 x) (ROTR 18 x)) (SHR 3 x)

-- 4.1.2, (4.7)
unfoldable pub σ1 : ℕ → ℕ
σ1 x = bit_xor (bit_xor (ROTR 17 x) (ROTR 19 x)) (SHR 10 x)

-- 6.2: the eight working variables; as a hash value, a is its word H_0, b is H_1, .., h is H_7
pub record Variables : Type 0 where
  pub a : ℕ
  pub b : ℕ
  pub c : ℕ
  pub d : ℕ
  pub e : ℕ
  pub f : ℕ
  pub g : ℕ
  pub h : ℕ
