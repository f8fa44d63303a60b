-- What `modulus` is for a q that is a field's and for one that is not. Assumes nothing.
use Prim.Native.Nat.{ℕ, ◌*◌, ◌%◌, ◌≤◌, ◌<◌}
use mathlib.Core.Path.{◌≡◌, refl, sym, ap, ◌∙◌}
use mathlib.Core.Bool.{Bool, true, false, false≢true}
use native.Mathlib.Nat.{mod-lt, mod-one, mul-le-mul, pos_of_ne-zero}
use lib.Dec.{lit<, lit≤}
use borrow.Author.Tests.{ne_eqb}
use Rattle.field.specs.Ops.{is_field, modulus, ops}

pub modulus_field : (q : ℕ) → is_field q ≡ true → modulus q ≡ q
unfolding modulus
modulus_field q h = simp h

-- in the field of two elements a sum is its last bit
pub modulus_two : (q : ℕ) → q ≡ 2 → 2 ≡ modulus q
unfolding modulus is_field
modulus_two q e = rw e

-- the elements of a field's q are the numbers below it
pub size_of : (q : ℕ) → is_field q ≡ true → (ops q).size ≡ q
unfolding ops
size_of = modulus_field

pub modulus_other : (q : ℕ) → is_field q ≡ false → modulus q ≡ 1
unfolding modulus
modulus_other q h = simp h

-- the remainder for a q that is no field's
pub other_remainder : (q x : ℕ) → is_field q ≡ false → 0 ≡ x % modulus q
other_remainder q x h = sym (ap (λ (k : ℕ). x % k) (modulus_other q h) ∙ mod-one x)

pub not_field : (q : ℕ) → (q ≡ 2 → ⊥) → (q ≡ 7 → ⊥) → (q ≡ 31 → ⊥) → (q ≡ 251 → ⊥) → is_field q ≡ false
unfolding is_field
not_field q a b c d = simp (ne_eqb q 2 a, ne_eqb q 7 b, ne_eqb q 31 c, ne_eqb q 251 d)

zero_no_field : (q : ℕ) → is_field q ≡ true → q ≡ 0 → ⊥
unfolding is_field
zero_no_field q h e = false≢true (rw e at h)

pub modulus_pos : (q : ℕ) → 0 < modulus q
modulus_pos q = go (is_field q) refl
  where
    go : (t : Bool) → is_field q ≡ t → 0 < modulus q
    go true e = rw (modulus_field q e) (pos_of_ne-zero (zero_no_field q e))
    go false e = rw (modulus_other q e) (lit< tt)

-- a product of two bytes
pub byte_product : (a b : ℕ) → a ≤ 255 → b ≤ 255 → a * b ≤ 65025
byte_product a b ha hb = mul-le-mul ha hb

-- a remainder is below the modulus, which is a byte where q is one
pub remainder_below : (q x : ℕ) → x % modulus q < modulus q
remainder_below q x = mod-lt x (modulus_pos q)

pub modulus_byte : (q : ℕ) → q ≤ 255 → modulus q ≤ 255
modulus_byte q h = go (is_field q) refl
  where
    go : (t : Bool) → is_field q ≡ t → modulus q ≤ 255
    go true e = rw (modulus_field q e) h
    go false e = rw (modulus_other q e) (lit≤ tt)
