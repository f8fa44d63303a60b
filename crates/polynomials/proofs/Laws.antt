-- Laws of F and G, for every system of at most 96 unknowns and all vectors. Assumes nothing.
use Prim.Native.Nat.{ℕ, ◌≤◌, ◌<◌}
use mathlib.Core.Path.{◌≡◌, refl, sym, ap, ap₂, ◌∙◌}
use mathlib.Core.List.{List}
use native.Mathlib.Omega.{arith}
use Rattle.field.specs.Ops.{Ops}
use Rattle.field.specs.Field.{Ring}
use Rattle.slices.specs.Slices.{◌!◌}
use Rattle.field.specs.Vector.{vector, add_v, sub_v, mul_v}
use Rattle.field.proofs.Fields.{ring}
use Rattle.field.proofs.Vectors.{vector_at, vector_cong}
use Rattle.field.proofs.Sums.{sub_of}
use Rattle.system.specs.Polynomial.{polynomial}
use Rattle.system.specs.System.{q_of, n_of, m_of, ops_of, quadratic, linear, F, G}
use Rattle.polynomials.specs.Polar.{polar, expanded}
use Rattle.polynomials.proofs.Forms.{polar_below, polynomial_cong, polynomial-add, polar_cong, polar_comm, polar-add, polar-mul}

-- what is left of a sum when its first two parts are taken away
sub-sub : (o : Ops) (k : Ring o) (s p q r : ℕ) → r < o.size → s ≡ o.add p (o.add q r) → o.sub (o.sub s p) q ≡ r
sub-sub o k s p q r h e =
    ap (λ (t : ℕ). o.sub t q) (sub_of o k s p (o.add q r) (k.add_below q r) (sym e)) ∙ sub_of o k (o.add q r) q r h refl

module _ (b : List ℕ) (small : n_of b ≤ 96) where
  -- polynomial l at a vector, and its polar form
  value : ℕ → List ℕ → ℕ
  value l x = polynomial (ops_of b) (n_of b) (quadratic b l) (linear b l) (λ i. x ! i)

  polar_value : ℕ → List ℕ → List ℕ → ℕ
  polar_value l x y = polar (ops_of b) (n_of b) (quadratic b l) (λ i. x ! i) (λ i. y ! i)

  value_add : (l : ℕ) (x y : List ℕ) → value l (add_v (ops_of b) (n_of b) x y) ≡ (ops_of b).add (value l x) ((ops_of b).add (value l y) (polar_value l x y))
  unfolding add_v value polar_value
  value_add l x y =
      polynomial_cong (ops_of b) (ring (q_of b)) (n_of b) (quadratic b l) (linear b l) _ _ (λ i h. vector_at (n_of b) _ i h (omega arith)) ∙
      polynomial-add (ops_of b) (ring (q_of b)) (n_of b) (quadratic b l) (linear b l) (λ i. x ! i) (λ i. y ! i)

  pub G-expanded : (x y : List ℕ) → G b x y ≡ expanded b x y
  unfolding G F sub_v expanded value polar_value
  G-expanded x y =
      vector_cong (m_of b) _ _ (λ l h below.
      simp vector_at
      (sub-sub (ops_of b) (ring (q_of b)) _ (value l x) (value l y) (polar_value l x y) (polar_below (ops_of b) (ring (q_of b)) (n_of b) (quadratic b l) _ _) (value_add l x y)))

  -- F(x+y) = F(x) + F(y) + G(x,y)
  pub F-add : (x y : List ℕ) →
      F b (add_v (ops_of b) (n_of b) x y) ≡ add_v (ops_of b) (m_of b) (add_v (ops_of b) (m_of b) (F b x) (F b y)) (G b x y)
  unfolding F add_v expanded value polar_value
  F-add x y =
      vector_cong (m_of b) _ _ (λ l h below.
      simp (G-expanded x y, vector_at) (value_add l x y ∙ sym ((ring (q_of b)).add_assoc (value l x) (value l y) (polar_value l x y))))

  -- G(x,y) = G(y,x)
  pub G_comm : (x y : List ℕ) → G b x y ≡ G b y x
  unfolding expanded
  G_comm x y =
      G-expanded x y ∙
      vector_cong (m_of b) _ _ (λ l h below. polar_comm (ops_of b) (ring (q_of b)) (n_of b) (quadratic b l) _ _) ∙
      sym (G-expanded y x)

  -- G(x+x',y) = G(x,y) + G(x',y)
  pub G_add_left : (x x' y : List ℕ) → G b (add_v (ops_of b) (n_of b) x x') y ≡ add_v (ops_of b) (m_of b) (G b x y) (G b x' y)
  unfolding expanded add_v polar_value
  G_add_left x x' y =
      G-expanded _ y ∙
      vector_cong (m_of b) _ _ (λ l h below.
      simp (G-expanded x y, G-expanded x' y, vector_at)
      (polar_cong (ops_of b) (ring (q_of b)) (n_of b) (quadratic b l) _ _ _ _ (λ i s. vector_at (n_of b) _ i s (omega arith)) (λ i s. refl) ∙
      polar-add (ops_of b) (ring (q_of b)) (n_of b) (quadratic b l) (λ i. x ! i) (λ i. x' ! i) (λ i. y ! i)))

  -- G(x,y+y') = G(x,y) + G(x,y')
  pub G_add_right : (x y y' : List ℕ) → G b x (add_v (ops_of b) (n_of b) y y') ≡ add_v (ops_of b) (m_of b) (G b x y) (G b x y')
  G_add_right x y y' = G_comm x _ ∙ G_add_left y y' x ∙ ap₂ (add_v (ops_of b) (m_of b)) (G_comm y x) (G_comm y' x)

  -- G(αx,y) = αG(x,y)
  pub G-mul : (c : ℕ) (x y : List ℕ) → G b (mul_v (ops_of b) (n_of b) c x) y ≡ mul_v (ops_of b) (m_of b) c (G b x y)
  unfolding expanded mul_v polar_value
  G-mul c x y =
      G-expanded _ y ∙
      vector_cong (m_of b) _ _ (λ l h below.
      simp (G-expanded x y, vector_at)
      (polar_cong (ops_of b) (ring (q_of b)) (n_of b) (quadratic b l) _ _ _ _ (λ i s. vector_at (n_of b) _ i s (omega arith)) (λ i s. refl) ∙
      polar-mul (ops_of b) (ring (q_of b)) (n_of b) (quadratic b l) c (λ i. x ! i) (λ i. y ! i)))

  -- G(x,αy) = αG(x,y)
  pub G_mul_right : (c : ℕ) (x y : List ℕ) → G b x (mul_v (ops_of b) (n_of b) c y) ≡ mul_v (ops_of b) (m_of b) c (G b x y)
  G_mul_right c x y = G_comm x _ ∙ G-mul c y x ∙ ap (mul_v (ops_of b) (m_of b) c) (G_comm y x)

  -- F and G look at no more of their arguments than n elements
  pub F_held : (x : List ℕ) → F b (vector (n_of b) (λ i. x ! i)) ≡ F b x
  unfolding F
  F_held x =
      vector_cong (m_of b) _ _ (λ l h below.
      polynomial_cong (ops_of b) (ring (q_of b)) (n_of b) (quadratic b l) (linear b l) _ _ (λ i s. vector_at (n_of b) _ i s (omega arith)))

  pub G_held : (x y : List ℕ) → G b (vector (n_of b) (λ i. x ! i)) (vector (n_of b) (λ i. y ! i)) ≡ G b x y
  unfolding expanded
  G_held x y =
      G-expanded _ _ ∙
      vector_cong (m_of b) _ _ (λ l h below.
      polar_cong (ops_of b) (ring (q_of b)) (n_of b) (quadratic b l) _ _ _ _ (λ i s. vector_at (n_of b) _ i s (omega arith)) (λ i s. vector_at (n_of b) _ i s (omega arith))) ∙
      sym (G-expanded x y)
