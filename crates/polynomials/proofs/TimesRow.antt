-- How the products of a system's polynomials with a row are formed, one after the other. Assumes nothing.
use Prim.Native.Nat.{ℕ, ◌+◌, ◌-◌, ◌*◌, ◌≤◌, ◌<◌}
use mathlib.Core.Path.{◌≡◌, ap, ◌∙◌}
use mathlib.Core.List.{List}
use native.Mathlib.Nat.{mul-le-mul_right}
use native.Mathlib.Omega.{arith}
use lib.ListN.{length, take, drop, set, replicate}
use Rattle.slices.specs.Slices.{◌!◌}
use Rattle.slices.proofs.Parts.{part_at, length_part}
use Rattle.field.specs.Ops.{ops}
use Rattle.field.specs.Vector.{sum, vector}
use Rattle.field.proofs.Fields.{ring}
use Rattle.field.proofs.Sums.{sum_cong}
use Rattle.field.proofs.Vectors.{vector_start, vector_step, vector_end}
use Rattle.system.specs.System.{q_of, n_of, m_of, ops_of, width, system_refusal}
use Rattle.polynomials.specs.Monomials.{times_row}
use Rattle.system.proofs.SystemLayout.{accepted, width_bound}

-- the product of polynomial i's coefficients and the row
abbrev pub product : List ℕ → List ℕ → ℕ → ℕ
product b row i = sum (ops_of b) (width (n_of b)) (λ k. (ops_of b).mul (b ! (3 + i * width (n_of b) + k)) (row ! k))

-- the first l are formed
abbrev pub DoneTo : List ℕ → List ℕ → List ℕ → ℕ → Type 0
DoneTo b row out l = out ≡ vector l (product b row)

pub done_start : (b row : List ℕ) → DoneTo b row (replicate 96 0) 0
done_start b row = vector_start (product b row)

-- polynomial l, which stands at a place of a system that is not refused
module _ (b : List ℕ) (good : system_refusal b ≡ 0) (l place w : ℕ) (start : place ≡ 3 + l * width (n_of b)) (wide : w ≡ width (n_of b)) where
  pub fits : l < m_of b → place + w ≤ length b
  fits below = omega (arith, mul-le-mul_right (width (n_of b)) below, (accepted b good).whole)

  pub small : w ≤ 4752
  unfolding width
  small = omega (arith, width_bound (n_of b) 96 (accepted b good).n_high)

  pub count : l < m_of b → length (take (place + w - place) (drop place b)) ≡ w
  count below = length_part b place (place + w) (omega arith) (fits below) ∙ omega arith

  -- the product with its coefficients, said of the system
  turn : (q r : ℕ) (row : List ℕ) → l < m_of b → q ≡ q_of b →
      r ≡ sum (ops q) (length (take (place + w - place) (drop place b))) (λ k. (ops q).mul (take (place + w - place) (drop place b) ! k) (row ! k)) →
      r ≡ product b row l
  turn q r row below field e =
      rw (← start, ← wide, ← field)
      ((rw (count below) at e) ∙
      sum_cong (ops q) (ring q) w _ _ (λ k h. ap (λ (c : ℕ). (ops q).mul c (row ! k)) (part_at b place (place + w) k (omega arith))))

  pub done_step : (q r : ℕ) (row out : List ℕ) → l < m_of b → q ≡ q_of b →
      r ≡ sum (ops q) (length (take (place + w - place) (drop place b))) (λ k. (ops q).mul (take (place + w - place) (drop place b) ! k) (row ! k)) →
      DoneTo b row out l → (place + w ≡ 3 + (l + 1) * width (n_of b)) × DoneTo b row (set out l r) (l + 1)
  done_step q r row out below field e done =
      let k = accepted b good in (omega (arith, start, wide), vector_step out (product b row) l r done (omega arith) (turn q r row below field e))

pub few : (b : List ℕ) → system_refusal b ≡ 0 → m_of b ≤ 96
few b good = (accepted b good).m_high

pub done_end : (b row out : List ℕ) (l : ℕ) → system_refusal b ≡ 0 → DoneTo b row out l → l ≡ m_of b → out ≡ times_row b row
unfolding times_row
done_end b row out l good done end =
    let k = accepted b good in vector_end out (product b row) l _ done (omega arith)
