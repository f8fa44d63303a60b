-- What follows from the laws of a ring, of sums over an index too, and from those of a field. Assumes nothing.
use Prim.Native.Nat.{ℕ, zero, suc, ◌+◌, ◌<◌}
use mathlib.Core.Path.{◌≡◌, refl, sym, ap, ap₂, ◌∙◌}
use native.Mathlib.Nat.{add-zero, add-suc}
use native.Mathlib.Omega.{arith}
use Rattle.field.specs.Ops.{Ops}
use Rattle.field.specs.Field.{Ring, Inverse, Field}
use Rattle.field.specs.Vector.{sum}

module _ (o : Ops) (k : Ring o) where
  open o use {size, add, sub, mul}

  -- ---- elements

  pub add_nought : (a : ℕ) → a < size → add a 0 ≡ a
  add_nought a h = k.add_comm a 0 ∙ k.zero-add a h

  pub add_left_comm : (a b c : ℕ) → add a (add b c) ≡ add b (add a c)
  add_left_comm a b c = sym (k.add_assoc a b c) ∙ ap (λ (t : ℕ). add t c) (k.add_comm a b) ∙ k.add_assoc b a c

  -- what is added in front can be taken away again
  pub add_undo : (a b : ℕ) → b < size → add (sub 0 a) (add a b) ≡ b
  add_undo a b h = sym (k.add_assoc (sub 0 a) a b) ∙ ap (λ (t : ℕ). add t b) (k.sub-add 0 a k.zero_below) ∙ k.zero-add b h

  -- a difference is what is added to come back
  pub sub_of : (a b r : ℕ) → r < size → add b r ≡ a → sub a b ≡ r
  sub_of a b r h e =
      sym (add_undo b (sub a b) (k.sub_below a b)) ∙
      ap (add (sub 0 b)) (k.add_comm b (sub a b) ∙ rw (← e) (k.sub-add (add b r) b (k.add_below b r))) ∙
      add_undo b r h

  pub mul_nought : (a : ℕ) → mul a 0 ≡ 0
  mul_nought a =
      sym (add_undo (mul a 0) (mul a 0) (k.mul_below a 0)) ∙
      ap (add (sub 0 (mul a 0))) (sym (k.mul-add a 0 0) ∙ ap (mul a) (k.zero-add 0 k.zero_below) ∙ sym (add_nought (mul a 0) (k.mul_below a 0))) ∙
      add_undo (mul a 0) 0 k.zero_below

  pub add-mul : (a b c : ℕ) → mul (add a b) c ≡ add (mul a c) (mul b c)
  add-mul a b c = k.mul_comm (add a b) c ∙ k.mul-add c a b ∙ ap₂ add (k.mul_comm c a) (k.mul_comm c b)

  pub mul_left_comm : (a b c : ℕ) → mul a (mul b c) ≡ mul b (mul a c)
  mul_left_comm a b c = sym (k.mul_assoc a b c) ∙ ap (λ (t : ℕ). mul t c) (k.mul_comm a b) ∙ k.mul_assoc b a c

  -- ---- sums over an index

  pub sum_below : (n : ℕ) (f : ℕ → ℕ) → sum o n f < size
  unfolding sum
  sum_below zero f = k.zero_below
  sum_below (suc n) f = k.add_below (sum o n f) (f n)

  pub sum_cong : (n : ℕ) (f g : ℕ → ℕ) → ((i : ℕ) → i < n → f i ≡ g i) → sum o n f ≡ sum o n g
  unfolding sum
  sum_cong zero f g same = refl
  sum_cong (suc n) f g same = ap₂ add (sum_cong n f g (λ i h. same i (omega arith))) (same n (omega arith))

  pub sum-add : (n : ℕ) (f g : ℕ → ℕ) → sum o n (λ i. add (f i) (g i)) ≡ add (sum o n f) (sum o n g)
  unfolding sum
  sum-add zero f g = sym (k.zero-add 0 k.zero_below)
  sum-add (suc n) f g = ap (λ (t : ℕ). add t (add (f n) (g n))) (sum-add n f g) ∙ simp (k.add_assoc, k.add_comm, add_left_comm)

  pub sum-mul : (a n : ℕ) (f : ℕ → ℕ) → sum o n (λ i. mul a (f i)) ≡ mul a (sum o n f)
  unfolding sum
  sum-mul a zero f = sym (mul_nought a)
  sum-mul a (suc n) f = ap (λ (t : ℕ). add t (mul a (f n))) (sum-mul a n f) ∙ sym (k.mul-add a (sum o n f) (f n))

  pub sum_split : (m n : ℕ) (f : ℕ → ℕ) → sum o (m + n) f ≡ add (sum o m f) (sum o n (λ i. f (m + i)))
  unfolding sum
  sum_split m zero f = ap (λ (t : ℕ). sum o t f) (add-zero m) ∙ sym (add_nought (sum o m f) (sum_below m f))
  sum_split m (suc n) f =
      ap (λ (t : ℕ). sum o t f) (add-suc m n) ∙ ap (λ (t : ℕ). add t (f (m + n))) (sum_split m n f) ∙ k.add_assoc _ _ _

-- ---- in a field

-- a product with an element other than 0 can be cancelled
pub mul_cancel : (o : Ops) → Field o → (a b c : ℕ) → a < o.size → b < o.size → c < o.size → (a ≡ 0 → ⊥) → o.mul a b ≡ o.mul a c → b ≡ c
mul_cancel o f a b c ha hb hc some e = sym (undo b hb) ∙ ap (o.mul i.value) e ∙ undo c hc
  where
    i : Inverse o a
    i = f.inverse a ha some

    undo : (x : ℕ) → x < o.size → o.mul i.value (o.mul a x) ≡ x
    undo x h =
        sym (f.ring.mul_assoc i.value a x) ∙ ap (λ (t : ℕ). o.mul t x) (f.ring.mul_comm i.value a ∙ i.product) ∙ f.ring.one-mul x h
