-- Document 01, "Field and vectors": vectors, and sums over an index.
use Rattle.std.specs.Prelude.{ℕ, zero, suc, ◌+◌, ◌<◌, ◌≡◌, Bool, true, ◌&&◌, cond, List, [], ◌∷◌, ltb, length}
use Rattle.slices.specs.Slices.{◌!◌, tabulate}
use Rattle.field.specs.Ops.{Ops}

-- "A vector is held by value in 96 bytes, zero beyond its length."
unfoldable pub vector : ℕ → (ℕ → ℕ) → List ℕ
vector n f = tabulate 96 (λ i. cond (ltb i n) (f i) 0)

-- a list as a vector
abbrev pub as_vector : List ℕ → List ℕ
as_vector l = vector (length l) (λ i. l ! i)

-- the vector of n elements that stands in a list from a place on
unfoldable pub slot_v : ℕ → ℕ → List ℕ → List ℕ
slot_v n place l = vector n (λ i. l ! (place + i))

-- each of the list is an element of a field of q: "below q"
abbrev pub Elements : ℕ → List ℕ → Type 0
Elements q l = (i : ℕ) → i < length l → l ! i < q

-- the test of it, which refusals cite: `all_below q l ≡ true` exactly where `Elements q l` (proofs/Elements.antt)
unfoldable pub all_below : ℕ → List ℕ → Bool
all_below q [] = true
all_below q (x ∷ xs) = ltb x q && all_below q xs

-- x is a vector of n elements
pub record IsVector (o : Ops) (n : ℕ) (x : List ℕ) : Type 0 where
  pub padded : x ≡ vector n (λ i. x ! i)
  pub elements : Elements o.size x

-- sum, difference and multiple of vectors of n elements
unfoldable pub add_v : Ops → ℕ → List ℕ → List ℕ → List ℕ
add_v o n x y = vector n (λ i. o.add (x ! i) (y ! i))

unfoldable pub sub_v : Ops → ℕ → List ℕ → List ℕ → List ℕ
sub_v o n x y = vector n (λ i. o.sub (x ! i) (y ! i))

unfoldable pub mul_v : Ops → ℕ → ℕ → List ℕ → List ℕ
mul_v o n a x = vector n (λ i. o.mul a (x ! i))

-- f 0 + .. + f (n - 1)
unfoldable pub sum : Ops → ℕ → (ℕ → ℕ) → ℕ
sum o zero f = 0
sum o (suc n) f = o.add (sum o n f) (f n)
