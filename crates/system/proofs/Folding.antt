-- Our F is source document 000's: the sum over i ≤ j with folded coefficients is the sum over all i and j. Assumes nothing.
use Prim.Native.Nat.{ℕ, zero, suc, ◌+◌, ◌-◌, ◌≤◌, ◌<◌}
use mathlib.Core.Path.{◌≡◌, refl, sym, ap, ap₂, fun_ext, ◌∙◌}
use mathlib.Core.Bool.{Bool, true, false, cond}
use mathlib.Core.List.{List}
use native.Mathlib.Nat.{add_assoc}
use native.Mathlib.Omega.{arith}
use lib.Dec.{eqb, leb}
use lib.ListN.{drop}
use lib.Seq.{get_or-drop}
use borrow.Author.Tests.{eqb-false, eq-eqb, ne_eqb, le-leb, lt-leb}
use Rattle.slices.specs.Slices.{◌!◌}
use Rattle.field.specs.Ops.{Ops}
use Rattle.field.specs.Field.{Ring}
use Rattle.field.specs.Vector.{vector, sum}
use Rattle.field.proofs.Modulus.{size_of}
use Rattle.field.proofs.Fields.{ring}
use Rattle.field.proofs.Sums.{add_nought, add-mul, sum_cong, sum-add}
use Rattle.field.proofs.Elements.{all_below_at, everywhere}
use Rattle.field.proofs.Vectors.{vector_cong}
use Rattle.system.specs.Polynomial.{pairs, polynomial, full_polynomial, folded}
use Rattle.system.specs.System.{q_of, n_of, m_of, ops_of, quadratic, linear, system_refusal, F}
use Rattle.system.proofs.SystemLayout.{accepted}

module _ (o : Ops) (k : Ring o) where
  open o use {size, add, mul}

  -- a term and its mirror image, which for i = j are one
  mirrored : (ℕ → ℕ → ℕ) → ℕ → ℕ → ℕ
  mirrored f i j = cond (eqb i j) (f i j) (add (f i j) (f j i))

  mirrored_same : (f : ℕ → ℕ → ℕ) (n : ℕ) → mirrored f n n ≡ f n n
  unfolding mirrored
  mirrored_same f n = simp (eq-eqb n n refl)

  mirrored_below : (f : ℕ → ℕ → ℕ) (i n : ℕ) → i < n → mirrored f i n ≡ add (f i n) (f n i)
  unfolding mirrored
  mirrored_below f i n h = simp (ne_eqb i n (omega arith))

  -- the pairs i ≤ j below n + 1 are those below n, the column of n and the corner
  pairs-suc : (n : ℕ) (f : ℕ → ℕ → ℕ) → f n n < size → pairs o (suc n) f ≡ add (add (pairs o n f) (sum o n (λ i. f i n))) (f n n)
  unfolding pairs sum
  pairs-suc n f h =
      ap₂ add (sum_cong o k n _ _ row ∙ sum-add o k n _ _) corner
    where
      row : (i : ℕ) → i < n → sum o (suc n - i) (λ d. f i (i + d)) ≡ add (sum o (n - i) (λ d. f i (i + d))) (f i n)
      row i l =
          let more : suc n - i ≡ suc (n - i) = omega arith in
          let last : i + (n - i) ≡ n = omega arith in
          ap (λ (t : ℕ). sum o t (λ d. f i (i + d))) more ∙ ap (λ (j : ℕ). add (sum o (n - i) (λ d. f i (i + d))) (f i j)) last

      corner : sum o (suc n - n) (λ d. f n (n + d)) ≡ f n n
      corner =
          let one : suc n - n ≡ 1 = omega arith in
          let same : n + 0 ≡ n = omega arith in
          ap (λ (t : ℕ). sum o t (λ d. f n (n + d))) one ∙ ap (λ (j : ℕ). add 0 (f n j)) same ∙ k.zero-add (f n n) h

  -- all pairs below n + 1 are those below n, the column of n, its row and the corner
  square_suc : (n : ℕ) (f : ℕ → ℕ → ℕ) →
      sum o (suc n) (λ i. sum o (suc n) (f i)) ≡ add (add (sum o n (λ i. sum o n (f i))) (sum o n (λ i. f i n))) (add (sum o n (f n)) (f n n))
  unfolding sum
  square_suc n f = ap (λ (t : ℕ). add t (add (sum o n (f n)) (f n n))) (sum-add o k n (λ i. sum o n (f i)) (λ i. f i n))

  regroup : (s c r d : ℕ) → add (add s (add c r)) d ≡ add (add s c) (add r d)
  regroup s c r d = simp k.add_assoc

  -- the sum over i ≤ j of mirrored terms is the sum over all i and j
  pairs_mirrored : (n : ℕ) (f : ℕ → ℕ → ℕ) → ((i j : ℕ) → f i j < size) → pairs o n (mirrored f) ≡ sum o n (λ i. sum o n (f i))
  pairs_mirrored zero f below = unfold pairs sum in refl
  pairs_mirrored (suc n) f below =
      pairs-suc n (mirrored f) (rw (mirrored_same f n) (below n n)) ∙
      ap₂ add (ap₂ add (pairs_mirrored n f below) (sum_cong o k n _ _ (λ i h. mirrored_below f i n h) ∙ sum-add o k n (λ i. f i n) (f n))) (mirrored_same f n) ∙
      regroup _ _ _ _ ∙
      sym (square_suc n f)

  module _ (n : ℕ) (a : ℕ → ℕ → ℕ) (b x : ℕ → ℕ) where
    term : ℕ → ℕ → ℕ
    term i j = mul (a i j) (mul (x i) (x j))

    -- a folded coefficient's term is that of both
    folded_term : (i j : ℕ) → mul (folded o a i j) (mul (x i) (x j)) ≡ mirrored term i j
    unfolding folded mirrored term
    folded_term i j = go (eqb i j) refl
      where
        go : (t : Bool) → eqb i j ≡ t → mul (folded o a i j) (mul (x i) (x j)) ≡ mirrored term i j
        go true e = simp e
        go false e = simp (e, add-mul o k) (ap (λ (t : ℕ). add (term i j) (mul (a j i) t)) (k.mul_comm (x i) (x j)))

    pub folded-polynomial : polynomial o n (folded o a) b x ≡ full_polynomial o n a b x
    unfolding polynomial full_polynomial term
    folded-polynomial =
        ap (λ (t : ℕ). add t (sum o n (λ i. mul (b i) (x i))))
        (ap (pairs o n) (fun_ext (λ i. fun_ext (λ j. folded_term i j))) ∙ pairs_mirrored n term (λ i j. k.mul_below (a i j) (mul (x i) (x j))))

-- F of a system whose coefficients are folded from a(l,i,j) is the sum over all i and j
pub F_full : (b : List ℕ) (a : ℕ → ℕ → ℕ → ℕ) → ((l i j : ℕ) → l < m_of b → i ≤ j → j < n_of b → quadratic b l i j ≡ folded (ops_of b) (a l) i j) →
    (x : List ℕ) → F b x ≡ vector (m_of b) (λ l. full_polynomial (ops_of b) (n_of b) (a l) (linear b l) (λ i. x ! i))
unfolding F polynomial pairs
F_full b a folds x =
    vector_cong (m_of b) _ _ (λ l h below.
    ap (λ (t : ℕ). (ops_of b).add t (sum (ops_of b) (n_of b) (λ i. (ops_of b).mul (linear b l i) (x ! i))))
    (sum_cong (ops_of b) (ring (q_of b)) (n_of b) _ _ (λ i hi. sum_cong (ops_of b) (ring (q_of b)) (n_of b - i) _ _ (λ d hd.
    ap (λ (c : ℕ). (ops_of b).mul c ((ops_of b).mul (x ! i) (x ! (i + d)))) (folds l i (i + d) h (omega arith) (omega arith))))) ∙
    folded-polynomial (ops_of b) (ring (q_of b)) (n_of b) (a l) (linear b l) (λ i. x ! i))

-- ---- every system is of that form

-- a(l,i,j), 0 for i > j
abbrev pub upper : List ℕ → ℕ → ℕ → ℕ → ℕ
upper b l i j = cond (leb i j) (quadratic b l i j) 0

module _ (b : List ℕ) (good : system_refusal b ≡ 0) where
  -- what stands behind the first three bytes is an element, and so is the 0 beyond the end
  coefficient_below : (i : ℕ) → b ! (3 + i) < (ops_of b).size
  coefficient_below i =
      let k = accepted b good in
      let size : (ops_of b).size ≡ q_of b = size_of (q_of b) k.q_is_field in
      rw (← (get_or-drop 3 b i 0))
      (everywhere (ops_of b).size (drop 3 b) (ring (q_of b)).zero_below (rw size (all_below_at (q_of b) (drop 3 b) k.elements)) i)

  upper_folds : (l i j : ℕ) → i ≤ j → quadratic b l i j ≡ folded (ops_of b) (upper b l) i j
  unfolding folded
  upper_folds l i j h = go (eqb i j) refl
    where
      go : (t : Bool) → eqb i j ≡ t → quadratic b l i j ≡ folded (ops_of b) (upper b l) i j
      go true e = simp (e, le-leb i j h)
      go false e = simp (e, le-leb i j h, lt-leb j i (omega (arith, eqb-false i j e))) (sym (add_nought (ops_of b) (ring (q_of b)) _ below))
        where
          below : quadratic b l i j < (ops_of b).size
          below = unfold quadratic in (rw add_assoc (coefficient_below _))

  pub F_upper : (x : List ℕ) → F b x ≡ vector (m_of b) (λ l. full_polynomial (ops_of b) (n_of b) (upper b l) (linear b l) (λ i. x ! i))
  F_upper = F_full b (upper b) (λ l i j hl h hj. upper_folds l i j h)
