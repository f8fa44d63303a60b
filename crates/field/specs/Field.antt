-- What a field is. Sums, differences and products are those of a commutative ring, on which F, G and most of the protocols rest; a field has two elements at
-- least and inverses, on which special soundness of five passes rests. A field is supplied by its operations (`Ops`) and a value of `Field`.
use Rattle.std.specs.Prelude.{◌≡◌, ℕ, ◌<◌}
use Rattle.field.specs.Ops.{Ops}

module _ (o : Ops) where
  open o use {size, add, sub, mul}

  -- a commutative ring; the laws that ask for no element hold of every number, since the operations reduce what they are given
  pub record Ring : Type 0 where
    pub zero_below : 0 < size
    pub add_below : (a b : ℕ) → add a b < size
    pub sub_below : (a b : ℕ) → sub a b < size
    pub mul_below : (a b : ℕ) → mul a b < size
    pub add_assoc : (a b c : ℕ) → add (add a b) c ≡ add a (add b c)
    pub add_comm : (a b : ℕ) → add a b ≡ add b a
    pub zero-add : (a : ℕ) → a < size → add 0 a ≡ a
    pub sub-add : (a b : ℕ) → a < size → add (sub a b) b ≡ a
    pub mul_assoc : (a b c : ℕ) → mul (mul a b) c ≡ mul a (mul b c)
    pub mul_comm : (a b : ℕ) → mul a b ≡ mul b a
    pub one-mul : (a : ℕ) → a < size → mul 1 a ≡ a
    pub mul-add : (a b c : ℕ) → mul a (add b c) ≡ add (mul a b) (mul a c)

  -- an element whose product with a is 1
  pub record Inverse (a : ℕ) : Type 0 where
    pub value : ℕ
    pub below : value < size
    pub product : mul a value ≡ 1

  -- a field: 1 is an element, and every element but 0 has an inverse
  pub record Field : Type 0 where
    pub ring : Ring
    pub one_below : 1 < size
    pub inverse : (a : ℕ) → a < size → (a ≡ 0 → ⊥) → Inverse a
