-- The test `same` and equality of lists. Assumes nothing.
use Prim.Native.Nat.{ℕ, ◌<◌}
use mathlib.Core.Path.{◌≡◌, refl, sym, ap, ap₂, ◌∙◌}
use mathlib.Core.Bool.{Bool, true, false, false≢true, ◌&&◌}
use mathlib.Core.List.{List, [], ◌∷◌}
use lib.Dec.{eqb}
use lib.ListN.{length}
use lib.Pointwise.{pointwise}
use lib.Seq.{ext_get_or}
use borrow.Author.Tests.{eqb-true, eq-eqb}
use Rattle.slices.specs.Slices.{◌!◌, same}
use Rattle.slices.proofs.Booleans.{and_left, and_right}

pub same_refl : (l : List ℕ) → same l l ≡ true
unfolding same
same_refl [] = refl
same_refl (x ∷ l) = rw (eq-eqb x x refl) (same_refl l)

pub same_true : (l k : List ℕ) → same l k ≡ true → l ≡ k
unfolding same
same_true [] [] e = refl
same_true [] (y ∷ k) e = absurd (false≢true e)
same_true (x ∷ l) [] e = absurd (false≢true e)
same_true (x ∷ l) (y ∷ k) e = ap₂ ◌∷◌ (eqb-true x y (and_left (eqb x y) (same l k) e)) (same_true l k (and_right (eqb x y) (same l k) e))

-- what `==` of two arrays or slices of bytes answers
pub pointwise_same : (l k : List ℕ) → pointwise eqb l k ≡ same l k
unfolding same
pointwise_same [] [] = refl
pointwise_same [] (y ∷ k) = refl
pointwise_same (x ∷ l) [] = refl
pointwise_same (x ∷ l) (y ∷ k) = ap (λ (rest : Bool). eqb x y && rest) (pointwise_same l k)

pub same_by : (l k : List ℕ) → l ≡ k → same l k ≡ true
same_by l k e = rw e (same_refl k)

-- lists of one length that agree at each place, and lists that differ at one
pub same_each : (l k : List ℕ) (n : ℕ) → length l ≡ n → length k ≡ n → ((i : ℕ) → i < n → l ! i ≡ k ! i) → same l k ≡ true
same_each l k n hl hk each = same_by l k (ext_get_or 0 l k (hl ∙ sym hk) (λ i h. each i (rw hl at h)))

pub same_lengths : (l k : List ℕ) → (length l ≡ length k → ⊥) → same l k ≡ false
same_lengths l k differ = go (same l k) refl
  where
    go : (t : Bool) → same l k ≡ t → same l k ≡ false
    go true e = absurd (differ (ap length (same_true l k e)))
    go false e = e

pub same_differs : (l k : List ℕ) (i : ℕ) → (l ! i ≡ k ! i → ⊥) → same l k ≡ false
same_differs l k i differ = go (same l k) refl
  where
    go : (t : Bool) → same l k ≡ t → same l k ≡ false
    go true e = absurd (differ (ap (λ (m : List ℕ). m ! i) (same_true l k e)))
    go false e = e
