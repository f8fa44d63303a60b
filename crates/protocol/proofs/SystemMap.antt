-- The structure of a system's bytes: vectors of n and of m elements are groups, and a system is a quadratic map. Assumes nothing.
use Prim.Native.Nat.{ℕ, ◌≤◌, ◌<◌}
use mathlib.Core.Path.{◌≡◌, sym, ap, ◌∙◌}
use mathlib.Core.Bool.{true}
use mathlib.Core.List.{List}
use native.Mathlib.Nat.{lt_of_not-le}
use native.Mathlib.Decide.{dec_le}
use Rattle.slices.specs.Slices.{◌!◌}
use Rattle.field.specs.Ops.{Ops, is_field}
use Rattle.field.specs.Field.{Ring, Field}
use Rattle.field.specs.Vector.{vector, IsVector, add_v, sub_v, mul_v}
use Rattle.field.proofs.Fields.{ring, field}
use Rattle.field.proofs.Sums.{add-mul, sub_of, mul_cancel}
use Rattle.field.proofs.Vectors.{length-vector, vector_at, vector_beyond, vector_cong, element_at}
use Rattle.system.specs.System.{q_of, n_of, m_of, ops_of, quadratic, linear, F}
use Rattle.polynomials.proofs.Forms.{polynomial_below}
use Rattle.polynomials.proofs.Laws.{F-add, G_add_left, G-mul}
use Rattle.protocol.specs.Structure.{AbelianGroup, QuadraticMap}
use Rattle.protocol.specs.Rounds.{map_of, IsX, IsY, IsScalar}

module _ (o : Ops) (k : Ring o) where
  open o use {size, add, sub, mul}

  -- ---- elements

  mul-sub : (a b c : ℕ) → a < size → sub (mul a c) (mul b c) ≡ mul (sub a b) c
  mul-sub a b c h =
      sub_of o k _ _ _ (k.mul_below _ _) (k.add_comm _ _ ∙ sym (add-mul o k (sub a b) b c) ∙ ap (λ (t : ℕ). mul t c) (k.sub-add a b h))

  sub_nonzero : (a b : ℕ) → a < size → b < size → (a ≡ b → ⊥) → sub a b ≡ 0 → ⊥
  sub_nonzero a b ha hb differ e = differ (sym (k.sub-add a b ha) ∙ ap (λ (t : ℕ). add t b) e ∙ k.zero-add b hb)

  -- ---- vectors of n elements

  module _ (n : ℕ) where
    pub is_vector : (f : ℕ → ℕ) → ((i : ℕ) → i < n → f i < size) → IsVector o n (vector n f)
    is_vector f below =
        record {
          padded = vector_cong n f _ (λ i h l. sym (vector_at n f i h l));
          elements = λ i inside.
              elim (dec_le n i) [
                | yes h ↦ rw (vector_beyond n f i h) k.zero_below
                | no h ↦ rw (vector_at n f i (lt_of_not-le h) (rw (length-vector n f) at inside)) (below i (lt_of_not-le h))
              ];
        }

    -- vectors with the same elements are equal
    same_vector : (x y : List ℕ) → IsVector o n x → IsVector o n y → ((i : ℕ) → i < n → i < 96 → x ! i ≡ y ! i) → x ≡ y
    same_vector x y hx hy same = hx.padded ∙ vector_cong n _ _ same ∙ sym hy.padded

    pub vectors : AbelianGroup (List ℕ) (IsVector o n) (add_v o n) (sub_v o n)
    unfolding add_v sub_v
    vectors =
        record {
          add_is = λ x y. is_vector _ (λ i h. k.add_below _ _);
          sub_is = λ x y. is_vector _ (λ i h. k.sub_below _ _);
          add_assoc = λ x y z. vector_cong n _ _ (λ i h l. simp vector_at (k.add_assoc (x ! i) (y ! i) (z ! i)));
          add_comm = λ x y. vector_cong n _ _ (λ i h l. k.add_comm (x ! i) (y ! i));
          sub-add = λ x y hx. vector_cong n _ _ (λ i h l. simp vector_at (k.sub-add (x ! i) (y ! i) (element_at o n x hx i))) ∙ sym hx.padded;
        }

    mul_v-add : (a : ℕ) (x y : List ℕ) → mul_v o n a (add_v o n x y) ≡ add_v o n (mul_v o n a x) (mul_v o n a y)
    unfolding mul_v add_v
    mul_v-add a x y = vector_cong n _ _ (λ i h l. simp vector_at (k.mul-add a (x ! i) (y ! i)))

    mul_v_is : (a : ℕ) (x : List ℕ) → IsVector o n (mul_v o n a x)
    unfolding mul_v
    mul_v_is a x = is_vector _ (λ i h. k.mul_below _ _)

-- ---- in a field a difference of two scalars can be cancelled

cancel_difference : (o : Ops) → Field o → (a b c d : ℕ) → a < o.size → b < o.size → (a ≡ b → ⊥) → c < o.size → d < o.size →
    o.sub (o.mul a c) (o.mul b c) ≡ o.sub (o.mul a d) (o.mul b d) → c ≡ d
cancel_difference o f a b c d ha hb differ hc hd e =
    let k = f.ring in
    mul_cancel o f (o.sub a b) c d (k.sub_below a b) hc hd (sub_nonzero o k a b ha hb differ) (sym (mul-sub o k a b c ha) ∙ e ∙ mul-sub o k a b d ha)

cancel_v : (o : Ops) → Field o → (n a b : ℕ) → a < o.size → b < o.size → (a ≡ b → ⊥) → (x y : List ℕ) → IsVector o n x → IsVector o n y →
    sub_v o n (mul_v o n a x) (mul_v o n b x) ≡ sub_v o n (mul_v o n a y) (mul_v o n b y) → x ≡ y
unfolding sub_v mul_v
cancel_v o f n a b ha hb differ x y hx hy e =
    same_vector o f.ring n x y hx hy (λ i h l.
    cancel_difference o f a b (x ! i) (y ! i) ha hb differ (element_at o n x hx i) (element_at o n y hy i) (simp vector_at at (ap (λ (t : List ℕ). t ! i) e)))

-- a system of at most 96 unknowns over a field is a quadratic map
pub system_map : (b : List ℕ) → is_field (q_of b) ≡ true → n_of b ≤ 96 → QuadraticMap (map_of b) (IsX b) (IsY b) (IsScalar b)
unfolding map_of F
system_map b known small =
    record {
      group_x = vectors (ops_of b) (ring (q_of b)) (n_of b);
      group_y = vectors (ops_of b) (ring (q_of b)) (m_of b);
      mul_x_is = mul_v_is (ops_of b) (ring (q_of b)) (n_of b);
      mul_y_is = mul_v_is (ops_of b) (ring (q_of b)) (m_of b);
      F_is = λ x. is_vector (ops_of b) (ring (q_of b)) (m_of b) _ (λ l h. polynomial_below (ops_of b) (ring (q_of b)) (n_of b) (quadratic b l) (linear b l) _);
      F-add = F-add b small;
      G-add = G_add_left b small;
      G-mul = G-mul b small;
      mul-add = mul_v-add (ops_of b) (ring (q_of b)) (m_of b);
      cancel = cancel_v (ops_of b) (field (q_of b) known) (m_of b);
    }
