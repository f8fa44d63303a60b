-- What include/canvasfox.h says of the lookup's answers beside the contracts: each of 0 and 255 means one thing. Assumes nothing.
use Prim.Native.Nat.{ℕ, ◌≤◌}
use mathlib.Core.Path.{◌≡◌, refl, ap}
use mathlib.Core.Bool.{Bool, true, false, cond}
use mathlib.Core.Logic.{◌↔◌}
use mathlib.Core.List.{List}
use native.Mathlib.Omega.{arith}
use lib.Dec.{eqb}
use borrow.Author.Tests.{eqb-false}
use Rattle.slices.proofs.Booleans.{either}
use Rattle.book_form.specs.Book.{front_in, table_in}
use Rattle.book_lookup.specs.Answer.{Answer, Found, Absent, Refused, LookedUp}
use Rattle.book_lookup.specs.Lookup.{place_in, no_key, lookup_at, lookup_refusal, lookup_of}
use Rattle.book_lookup.proofs.Lookups.{lookup_most}
use Rattle.capi_books.specs.Numbers.{answer_number}

-- a refusal's number is neither 0 nor above 13
unfoldable Told : Answer → Type 0
Told Found = Unit {0}
Told Absent = Unit {0}
Told (Refused number) = (number ≡ 0 → ⊥) × (number ≤ 13)

told : (b label : List ℕ) → Told (lookup_of b label).answer
unfolding lookup_of lookup_at no_key Told
told b label = go (eqb (lookup_refusal b label) 0) refl
  where
    go : (t : Bool) → eqb (lookup_refusal b label) 0 ≡ t →
        Told (cond t (lookup_at b (place_in (table_in b) (front_in b).count label)) (no_key (Refused (lookup_refusal b label)))).answer
    go true none = either (λ (r : LookedUp). Told r.answer) (eqb (place_in (table_in b) (front_in b).count label) 0) _ _ tt tt
    go false some = (eqb-false _ _ some, lookup_most b label)

found_is : (a : Answer) → Told a → (answer_number a ≡ 0) ↔ (a ≡ Found)
unfolding Told answer_number
found_is Found told = (λ none. refl, λ is. refl)
found_is Absent told = (λ none. absurd (omega (arith, none)), λ is. ap answer_number is)
found_is (Refused number) told = (λ none. absurd (told.0 none), λ is. ap answer_number is)

absent_is : (a : Answer) → Told a → (answer_number a ≡ 255) ↔ (a ≡ Absent)
unfolding Told answer_number
absent_is Found told = (λ none. absurd (omega (arith, none)), λ is. ap answer_number is)
absent_is Absent told = (λ none. refl, λ is. refl)
absent_is (Refused number) told = (λ none. absurd (omega (arith, none, told.1)), λ is. ap answer_number is)

-- canvasfox.h: "0 where it is found"
pub found_alone : (b label : List ℕ) → (answer_number (lookup_of b label).answer ≡ 0) ↔ ((lookup_of b label).answer ≡ Found)
found_alone b label = found_is (lookup_of b label).answer (told b label)

-- "255 where it is absent": no refusal has that number
pub absent_alone : (b label : List ℕ) → (answer_number (lookup_of b label).answer ≡ 255) ↔ ((lookup_of b label).answer ≡ Absent)
absent_alone b label = absent_is (lookup_of b label).answer (told b label)
