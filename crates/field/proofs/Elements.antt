-- `all_below` is the test of `Elements`, and what is read of a list of elements is one, beyond the end too. Assumes nothing.
use Prim.Native.Nat.{ℕ, zero, suc, ◌<◌}
use mathlib.Core.Path.{◌≡◌, refl}
use mathlib.Core.Bool.{true}
use mathlib.Core.List.{List, [], ◌∷◌, ◌++◌}
use native.Mathlib.Nat.{not-suc-le-zero, le_of_suc-le-suc, lt_of_not-le}
use native.Mathlib.Decide.{dec_le}
use native.Mathlib.Omega.{arith}
use lib.Dec.{ltb}
use lib.ListN.{length, get_or-eq_default}
use borrow.Author.Tests.{ltb-true, lt-ltb}
use Rattle.slices.specs.Slices.{◌!◌}
use Rattle.slices.proofs.Booleans.{and_left, and_right}
use Rattle.field.specs.Vector.{Elements, all_below}

pub at_all_below : (q : ℕ) (s : List ℕ) → Elements q s → all_below q s ≡ true
unfolding all_below
at_all_below q [] each = refl
at_all_below q (x ∷ s) each =
    let first = each 0 (omega arith) in
    rw (lt-ltb x q (omega (arith, first)), at_all_below q s (λ i h. each (suc i) (omega arith)))

pub all_below_at : (q : ℕ) (s : List ℕ) → all_below q s ≡ true → Elements q s
unfolding all_below
all_below_at q [] e i h = absurd (not-suc-le-zero h)
all_below_at q (x ∷ s) e zero h = ltb-true x q (and_left (ltb x q) (all_below q s) e)
all_below_at q (x ∷ s) e (suc i) h = all_below_at q s (and_right (ltb x q) (all_below q s) e) i (le_of_suc-le-suc h)

pub below_append : (q : ℕ) (s t : List ℕ) → all_below q s ≡ true → all_below q t ≡ true → all_below q (s ++ t) ≡ true
unfolding all_below
below_append q [] t hs ht = ht
below_append q (x ∷ s) t hs ht =
    rw (and_left (ltb x q) (all_below q s) hs, below_append q s t (and_right (ltb x q) (all_below q s) hs) ht)

-- beyond the end there is 0, an element too
pub everywhere : (q : ℕ) (s : List ℕ) → 0 < q → Elements q s → (i : ℕ) → s ! i < q
everywhere q s positive elements i =
    elim (dec_le (length s) i) [
      | yes beyond ↦ rw (get_or-eq_default s 0 beyond) positive
      | no within ↦ elements i (lt_of_not-le within)
    ]
