-- What stands in each half of a label. Assumes nothing.
use Prim.Native.Nat.{ℕ, zero, suc, ◌+◌, ◌*◌, ◌/◌, ◌%◌}
use mathlib.Core.Path.{◌≡◌, refl, ap, ap₂, ◌∙◌}
use mathlib.Core.Logic.{◌⊎◌, inl, inr}
use mathlib.Core.List.{List, [], ◌∷◌}
use native.Mathlib.Decide.{dec_le}
use native.Mathlib.Omega.{arith}
use lib.ListN.{length}
use Rattle.slices.specs.Slices.{◌!◌}
use Rattle.label.specs.Label.{halves}

pub length-halves : (l : List ℕ) → length (halves l) ≡ 2 * length l
unfolding halves
length-halves [] = refl
length-halves (x ∷ l) = let rest = length-halves l in omega (arith, rest)

-- the first digit of byte i, and its second
pub half_low : (l : List ℕ) (i : ℕ) → halves l ! (2 * i) ≡ (l ! i) % 16
unfolding halves
half_low [] i = refl
half_low (x ∷ l) zero = refl
half_low (x ∷ l) (suc i) = ap (λ (k : ℕ). halves (x ∷ l) ! k) (twice i) ∙ half_low l i
  where
    twice : (i : ℕ) → 2 * suc i ≡ suc (suc (2 * i))
    twice i = omega arith

pub half_high : (l : List ℕ) (i : ℕ) → halves l ! (2 * i + 1) ≡ (l ! i) / 16
unfolding halves
half_high [] i = refl
half_high (x ∷ l) zero = refl
half_high (x ∷ l) (suc i) = ap (λ (k : ℕ). halves (x ∷ l) ! k) (twice i) ∙ half_high l i
  where
    twice : (i : ℕ) → 2 * suc i + 1 ≡ suc (suc (2 * i + 1))
    twice i = omega arith

-- a half is the first or the second of a byte
pub parity : (i : ℕ) → (i ≡ 2 * (i / 2)) ⊎ (i ≡ 2 * (i / 2) + 1)
parity i =
    elim (dec_le i (2 * (i / 2))) [
      | yes even ↦ inl (omega arith)
      | no odd ↦ inr (omega arith)
    ]

-- bytes with the same halves are the same
byte_of : (x y : ℕ) → x % 16 ≡ y % 16 → x / 16 ≡ y / 16 → x ≡ y
byte_of x y low high = omega (arith, low, high)

pub same_halves : (a b : List ℕ) → length a ≡ length b → halves a ≡ halves b → a ≡ b
unfolding halves
same_halves [] [] long e = refl
same_halves [] (y ∷ b) long e = absurd (omega (arith, long))
same_halves (x ∷ a) [] long e = absurd (omega (arith, long))
same_halves (x ∷ a) (y ∷ b) long e =
    let low : x % 16 ≡ y % 16 = ap (λ (l : List ℕ). l ! 0) e in
    let high : x / 16 ≡ y / 16 = ap (λ (l : List ℕ). l ! 1) e in
    ap₂ ◌∷◌ (byte_of x y low high) (same_halves a b (omega (arith, long)) (ap (λ (l : List ℕ). behind l) e))
  where
    behind : List ℕ → List ℕ
    behind (x ∷ y ∷ l) = l
    behind (x ∷ []) = []
    behind [] = []
