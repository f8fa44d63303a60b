-- The structure that the protocols rest on: two abelian groups, scalars that act on both, a map F between them and its polar form G. Operations stand apart
-- from laws, as in the crate field, and for the same reason the laws hold of the whole type where they can: the operations reduce what they are given. Only
-- where a law speaks of an argument itself must that be an element.
use Rattle.std.specs.Prelude.{◌≡◌}

-- an abelian group by its sum and its difference; a zero is not used
pub record AbelianGroup (A : Type 0) (Element : A → Type 0) (add sub : A → A → A) : Type 0 where
  pub add_is : (a b : A) → Element (add a b)
  pub sub_is : (a b : A) → Element (sub a b)
  pub add_assoc : (a b c : A) → add (add a b) c ≡ add a (add b c)
  pub add_comm : (a b : A) → add a b ≡ add b a
  pub sub-add : (a b : A) → Element a → add (sub a b) b ≡ a

-- what the protocols compute with: vectors X of unknowns, vectors Y of values, scalars S
pub record QuadraticOps (X Y S : Type 0) : Type 0 where
  pub add_x : X → X → X
  pub sub_x : X → X → X
  pub mul_x : S → X → X
  pub add_y : Y → Y → Y
  pub sub_y : Y → Y → Y
  pub mul_y : S → Y → Y
  pub F : X → Y
  pub G : X → X → Y

module _ {X Y S : Type 0} (o : QuadraticOps X Y S) where
  open o use {add_x, sub_x, mul_x, add_y, sub_y, mul_y, F, G}

  -- F is quadratic with the polar form G, and a difference of two scalars can be cancelled
  pub record QuadraticMap (IsX : X → Type 0) (IsY : Y → Type 0) (IsScalar : S → Type 0) : Type 0 where
    pub group_x : AbelianGroup X IsX add_x sub_x
    pub group_y : AbelianGroup Y IsY add_y sub_y
    pub mul_x_is : (α : S) (x : X) → IsX (mul_x α x)
    pub mul_y_is : (α : S) (y : Y) → IsY (mul_y α y)
    pub F_is : (x : X) → IsY (F x)
    pub F-add : (x x' : X) → F (add_x x x') ≡ add_y (add_y (F x) (F x')) (G x x')
    pub G-add : (x x' z : X) → G (add_x x x') z ≡ add_y (G x z) (G x' z)
    pub G-mul : (α : S) (x z : X) → G (mul_x α x) z ≡ mul_y α (G x z)
    pub mul-add : (α : S) (y y' : Y) → mul_y α (add_y y y') ≡ add_y (mul_y α y) (mul_y α y')
    pub cancel : (α α' : S) → IsScalar α → IsScalar α' → (α ≡ α' → ⊥) →
        (y y' : Y) → IsY y → IsY y' → sub_y (mul_y α y) (mul_y α' y) ≡ sub_y (mul_y α y') (mul_y α' y') → y ≡ y'
