-- One product of a polynomial's coefficients and the monomials, in stored order, is the polynomial's double sum. Assumes nothing.
use Prim.Native.Nat.{ℕ, zero, suc, ◌+◌, ◌-◌, ◌*◌, ◌/◌, ◌≤◌, ◌<◌}
use mathlib.Core.Path.{◌≡◌, refl, sym, ap, ap₂, ◌∙◌}
use mathlib.Core.List.{List}
use native.Mathlib.Nat.{add-sub_cancel_left}
use native.Mathlib.Omega.{arith}
use lib.ListN.{replicate, get_or-replicate}
use Rattle.slices.specs.Slices.{◌!◌}
use Rattle.field.specs.Ops.{Ops, ops}
use Rattle.field.specs.Field.{Ring}
use Rattle.field.specs.Vector.{sum}
use Rattle.field.proofs.Fields.{ring}
use Rattle.field.proofs.Sums.{add_nought, mul_nought, sum_below, sum_cong, sum_split}
use Rattle.field.proofs.Vectors.{vector_cong}
use Rattle.system.specs.Polynomial.{pairs, polynomial}
use Rattle.system.specs.System.{q_of, n_of, m_of, ops_of, width, triangle, quadratic, linear, F, G, system_refusal}
use Rattle.polynomials.specs.Monomials.{monomial, Monomials, times_row}
use Rattle.polynomials.specs.Polar.{crossed, polar, expanded}
use Rattle.polynomials.proofs.Forms.{pairs_cong}
use Rattle.polynomials.proofs.Laws.{G-expanded}
use Rattle.system.proofs.SystemLayout.{accepted, triangle_whole, width_is}

module _ (o : Ops) (k : Ring o) where
  open o use {size, add, mul}

  -- a sum over the triangle, row by row
  triangle-sum : (n i : ℕ) (g : ℕ → ℕ) → sum o (triangle n i) g ≡ sum o i (λ j. sum o (n - j) (λ d. g (triangle n j + d)))
  unfolding sum triangle
  triangle-sum n zero g = refl
  triangle-sum n (suc i) g = sum_split o k (triangle n i) (n - i) g ∙ ap (λ (t : ℕ). add t (sum o (n - i) (λ d. g (triangle n i + d)))) (triangle-sum n i g)

  width-sum : (n : ℕ) (g : ℕ → ℕ) →
      sum o (width n) g ≡ add (sum o n (λ j. sum o (n - j) (λ d. g (triangle n j + d)))) (sum o n (λ i. g (triangle n n + i)))
  width-sum n g =
      ap (λ (w : ℕ). sum o w g) (width_is n) ∙ sum_split o k (triangle n n) n g ∙
      ap (λ (t : ℕ). add t (sum o n (λ i. g (triangle n n + i)))) (triangle-sum n n g)

  row_product : (n : ℕ) (c : ℕ → ℕ) (x y z t row : List ℕ) → Monomials o n x y z t row →
      sum o (width n) (λ i. mul (c i) (row ! i)) ≡
      add (pairs o n (λ i j. mul (c (triangle n i + (j - i))) (monomial o x y z i j))) (sum o n (λ i. mul (c (n * (n + 1) / 2 + i)) (t ! i)))
  unfolding pairs
  row_product n c x y z t row m =
      width-sum n _ ∙
      ap₂ add
      (sum_cong o k n _ _ (λ i h. sum_cong o k (n - i) _ _ (λ d l. ap₂ (λ (e v : ℕ). mul (c (triangle n i + e)) v) (sym (add-sub_cancel_left i d)) (m.quadratic_part i d h l))))
      (sum_cong o k n _ _ (λ i h. ap₂ (λ (e v : ℕ). mul (c (e + i)) v) (triangle_whole n) (m.linear_part i h)))

  nought_mul : (a : ℕ) → mul 0 a ≡ 0
  nought_mul a = k.mul_comm 0 a ∙ mul_nought o k a

  sum_nought : (n : ℕ) (c : ℕ → ℕ) → sum o n (λ i. mul (c i) 0) ≡ 0
  unfolding sum
  sum_nought zero c = refl
  sum_nought (suc n) c = ap₂ add (sum_nought n c) (mul_nought o k (c n)) ∙ k.zero-add 0 k.zero_below

-- ---- F and G

module _ (b : List ℕ) (small : n_of b ≤ 96) where
  zeros_at : (i : ℕ) → i < n_of b → replicate 96 0 ! i ≡ 0
  zeros_at i h = get_or-replicate {A = ℕ} 96 i 0 0 (omega arith)

  pub evaluated : (x row : List ℕ) → Monomials (ops_of b) (n_of b) x x (replicate 96 0) x row →
      times_row b row ≡ F b x
  unfolding times_row F polynomial quadratic linear
  evaluated x row m =
      vector_cong (m_of b) _ _ (λ l h below.
      row_product (ops_of b) (ring (q_of b)) (n_of b) (λ i. b ! (3 + l * width (n_of b) + i)) x x (replicate 96 0) x row m ∙
      ap₂ (ops_of b).add (pairs_cong (ops_of b) (ring (q_of b)) (n_of b) _ _ (λ i j hi hj. ap ((ops_of b).mul _) (square i j hi))) refl)
    where
      square : (i j : ℕ) → i < n_of b → monomial (ops_of b) x x (replicate 96 0) i j ≡ (ops_of b).mul (x ! i) (x ! j)
      square i j h =
          ap ((ops_of b).add ((ops_of b).mul (x ! i) (x ! j))) (ap (λ (t : ℕ). (ops_of b).mul t (x ! j)) (zeros_at i h) ∙ nought_mul (ops_of b) (ring (q_of b)) (x ! j)) ∙
          add_nought (ops_of b) (ring (q_of b)) _ ((ring (q_of b)).mul_below (x ! i) (x ! j))

  pub polarised : (x y row : List ℕ) → Monomials (ops_of b) (n_of b) x y y (replicate 96 0) row →
      times_row b row ≡ G b x y
  unfolding times_row expanded polar crossed quadratic pairs
  polarised x y row m =
      vector_cong (m_of b) _ _ (λ l h below.
      row_product (ops_of b) (ring (q_of b)) (n_of b) (λ i. b ! (3 + l * width (n_of b) + i)) x y y (replicate 96 0) row m ∙
      ap ((ops_of b).add _) (sum_cong (ops_of b) (ring (q_of b)) (n_of b) _ _ (λ i s. ap ((ops_of b).mul _) (zeros_at i s)) ∙ sum_nought (ops_of b) (ring (q_of b)) (n_of b) _) ∙
      add_nought (ops_of b) (ring (q_of b)) _ (sum_below (ops_of b) (ring (q_of b)) (n_of b) _)) ∙
      sym (G-expanded b small x y)

-- the same for a system that is not refused, with its q and n as they were read
pub few_unknowns : (b : List ℕ) → system_refusal b ≡ 0 → n_of b ≤ 96
few_unknowns b good = (accepted b good).n_high

pub is_f : (b : List ℕ) (q n : ℕ) (x row : List ℕ) → system_refusal b ≡ 0 → q ≡ q_of b → n ≡ n_of b →
    Monomials (ops q) n x x (replicate 96 0) x row → times_row b row ≡ F b x
is_f b q n x row good field unknowns m = evaluated b (few_unknowns b good) x row (rw (field, unknowns) at m)

pub is_g : (b : List ℕ) (q n : ℕ) (x y row : List ℕ) → system_refusal b ≡ 0 → q ≡ q_of b → n ≡ n_of b →
    Monomials (ops q) n x y y (replicate 96 0) row → times_row b row ≡ G b x y
is_g b q n x y row good field unknowns m = polarised b (few_unknowns b good) x y row (rw (field, unknowns) at m)
