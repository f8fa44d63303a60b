-- Laws of sums over pairs, of a polynomial and of its polar form, over any ring. Assumes nothing.
use Prim.Native.Nat.{ℕ, ◌+◌, ◌-◌, ◌<◌}
use mathlib.Core.Path.{◌≡◌, ap, ap₂, fun_ext, ◌∙◌}
use native.Mathlib.Omega.{arith}
use Rattle.field.specs.Ops.{Ops}
use Rattle.field.specs.Field.{Ring}
use Rattle.field.specs.Vector.{sum}
use Rattle.field.proofs.Sums.{add_left_comm, add-mul, mul_left_comm, sum_below, sum_cong, sum-add, sum-mul}
use Rattle.system.specs.Polynomial.{pairs, polynomial}
use Rattle.polynomials.specs.Polar.{crossed, polar}

module _ (o : Ops) (k : Ring o) where
  open o use {size, add, sub, mul}

  -- ---- sums over pairs

  pub pairs_cong : (n : ℕ) (f g : ℕ → ℕ → ℕ) → ((i j : ℕ) → i < n → j < n → f i j ≡ g i j) → pairs o n f ≡ pairs o n g
  unfolding pairs
  pairs_cong n f g same = sum_cong o k n _ _ (λ i h. sum_cong o k (n - i) _ _ (λ d l. same i (i + d) h (omega arith)))

  pub pairs-add : (n : ℕ) (f g : ℕ → ℕ → ℕ) → pairs o n (λ i j. add (f i j) (g i j)) ≡ add (pairs o n f) (pairs o n g)
  unfolding pairs
  pairs-add n f g = ap (sum o n) (fun_ext (λ i. sum-add o k (n - i) _ _)) ∙ sum-add o k n _ _

  pub pairs-mul : (c n : ℕ) (f : ℕ → ℕ → ℕ) → pairs o n (λ i j. mul c (f i j)) ≡ mul c (pairs o n f)
  unfolding pairs
  pairs-mul c n f = ap (sum o n) (fun_ext (λ i. sum-mul o k c (n - i) _)) ∙ sum-mul o k c n _

  -- two forms that agree at each pair of indices
  same_pairs : (n : ℕ) {f g : ℕ → ℕ → ℕ} → ((i j : ℕ) → f i j ≡ g i j) → pairs o n f ≡ pairs o n g
  same_pairs n same = ap (pairs o n) (fun_ext (λ i. fun_ext (λ j. same i j)))

  -- ---- the polynomial and its polar form

  module _ (n : ℕ) (a : ℕ → ℕ → ℕ) where
    -- one product of two sums
    expand : (x y : ℕ → ℕ) (i j : ℕ) →
        mul (a i j) (mul (add (x i) (y i)) (add (x j) (y j))) ≡
        add (mul (a i j) (mul (x i) (x j))) (add (mul (a i j) (mul (y i) (y j))) (crossed o a x y i j))
    unfolding crossed
    expand x y i j = simp (add-mul o k, k.mul-add, k.add_assoc, k.add_comm, add_left_comm o k)

    regroup : (p q r s t : ℕ) → add (add p (add q r)) (add s t) ≡ add (add p s) (add (add q t) r)
    regroup p q r s t = simp (k.add_assoc, k.add_comm, add_left_comm o k)

    pub polynomial-add : (b x y : ℕ → ℕ) →
        polynomial o n a b (λ i. add (x i) (y i)) ≡ add (polynomial o n a b x) (add (polynomial o n a b y) (polar o n a x y))
    unfolding polynomial polar
    polynomial-add b x y =
        ap₂ add (same_pairs n (expand x y) ∙ pairs-add n _ _ ∙ ap (add _) (pairs-add n _ _))
        (ap (sum o n) (fun_ext (λ i. k.mul-add (b i) (x i) (y i))) ∙ sum-add o k n _ _) ∙
        regroup _ _ _ _ _

    pub polar_below : (x y : ℕ → ℕ) → polar o n a x y < size
    unfolding polar pairs
    polar_below x y = sum_below o k n _

    pub polynomial_below : (b x : ℕ → ℕ) → polynomial o n a b x < size
    unfolding polynomial
    polynomial_below b x = k.add_below _ _

    pub polynomial_cong : (b x y : ℕ → ℕ) → ((i : ℕ) → i < n → x i ≡ y i) → polynomial o n a b x ≡ polynomial o n a b y
    unfolding polynomial
    polynomial_cong b x y same =
        ap₂ add (pairs_cong n _ _ (λ i j h l. ap (mul (a i j)) (ap₂ mul (same i h) (same j l)))) (sum_cong o k n _ _ (λ i h. ap (mul (b i)) (same i h)))

    pub polar_cong : (x x' y y' : ℕ → ℕ) → ((i : ℕ) → i < n → x i ≡ x' i) → ((i : ℕ) → i < n → y i ≡ y' i) → polar o n a x y ≡ polar o n a x' y'
    unfolding polar crossed
    polar_cong x x' y y' ex ey =
        pairs_cong n _ _ (λ i j h l. ap (mul (a i j)) (ap₂ add (ap₂ mul (ex i h) (ey j l)) (ap₂ mul (ey i h) (ex j l))))

    pub polar_comm : (x y : ℕ → ℕ) → polar o n a x y ≡ polar o n a y x
    unfolding polar crossed
    polar_comm x y = same_pairs n (λ i j. ap (mul (a i j)) (k.add_comm _ _))

    pub polar-add : (x x' y : ℕ → ℕ) → polar o n a (λ i. add (x i) (x' i)) y ≡ add (polar o n a x y) (polar o n a x' y)
    unfolding polar crossed
    polar-add x x' y = same_pairs n (λ i j. simp (add-mul o k, k.mul-add, k.add_assoc, add_left_comm o k)) ∙ pairs-add n _ _

    pub polar-mul : (c : ℕ) (x y : ℕ → ℕ) → polar o n a (λ i. mul c (x i)) y ≡ mul c (polar o n a x y)
    unfolding polar crossed
    polar-mul c x y = same_pairs n (λ i j. simp (k.mul-add, k.mul_assoc, k.mul_comm, mul_left_comm o k)) ∙ pairs-mul c n _
