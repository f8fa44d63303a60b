-- What the lookup's answers are as one number and a lent key. Assumes nothing.
use Prim.Native.Nat.{ℕ, ◌≤◌}
use mathlib.Core.Path.{◌≡◌, refl, sym, ap, ◌∙◌}
use mathlib.Core.List.{List}
use native.Mathlib.Omega.{arith}
use Rattle.std.specs.Prelude.{Option, Some, None, Result, Ok, Err}
use lib.Dec.{eqb}
use lib.ListN.{length, length-replicate}
use borrow.Author.Tests.{eq-eqb, ne_eqb}
use Rattle.slices.specs.Slices.{zeros}
use Rattle.slices.proofs.Booleans.{either}
use Rattle.refusal.specs.declared.Refusal.{Refusal}
use Rattle.refusal.specs.Refusal.{number, unless, ◌or_else◌, kept}
use Rattle.refusal.proofs.Refusals.{equal_holds, unless_holds, later_decides, kept_refused, kept_accepted}
use Rattle.field.proofs.Vectors.{length-vector}
use Rattle.book_form.specs.Book.{front_in, table_in}
use Rattle.book_form.proofs.Loops.{some_number}
use Rattle.book_reader.specs.Reader.{book_refusal}
use Rattle.book_reader.proofs.WellFormed.{accepted}
use Rattle.book_lookup.specs.Answer.{Absent, Refused, LookedUp}
use Rattle.book_lookup.specs.Lookup.{place_in, key_in, no_key, lookup_at, lookup_refusal, lookup_of, answered}
use Rattle.capi_books.specs.Numbers.{answer_number, lookup_number}

-- a book that is not refused has its first seven bytes
pub seven : (b : List ℕ) → 0 ≡ book_refusal b → 7 ≤ length b
seven b none = (accepted b (sym none)).laid_out.size

-- an output that is not refused has its length
pub fits : (room long : ℕ) → 0 ≡ unless (eqb room long) 2 → room ≡ long
fits room long none = equal_holds room long 2 tt (sym none)

-- a key has 96 bytes, whatever the answer is
abbrev Long : LookedUp → Type 0
Long r = length r.key ≡ 96

no_key_long : (r : LookedUp) → r.key ≡ zeros 96 → Long r
unfolding zeros
no_key_long r is = ap length is ∙ length-replicate {A = ℕ} 96 0

key_in_long : (b : List ℕ) (i : ℕ) → length (key_in b i) ≡ 96
unfolding key_in
key_in_long b i = length-vector _ _

pub key_long : (b label : List ℕ) → length (lookup_of b label).key ≡ 96
unfolding lookup_of lookup_at no_key
key_long b label =
    either Long (eqb (lookup_refusal b label) 0) _ _
    (either Long (eqb (place_in (table_in b) (front_in b).count label) 0) _ _ (no_key_long (no_key Absent) refl) (key_in_long b _)) (no_key_long (no_key (Refused (lookup_refusal b label))) refl)

-- ---- a lookup, into a key of this length

-- of another length it is refused
pub no_room : (b label key : List ℕ) (k : ℕ) → (length key ≡ 96 → ⊥) → k ≡ 2 → (k ≡ lookup_number b label (length key)) × (key ≡ kept k key (lookup_of b label).key)
unfolding lookup_number unless ◌or_else◌
no_room b label key k other is =
    (is ∙ sym (simp (ne_eqb (length key) 96 other)), sym (kept_refused k key _ (λ none. absurd (omega (arith, is, none)))))

module _ (b label key : List ℕ) (answer : Result (Option (List ℕ)) Refusal) (room : length key ≡ 96) (looked : answered answer ≡ lookup_of b label) where
  -- else it is the answer's number
  number_is : (r : LookedUp) → answered answer ≡ r → answer_number r.answer ≡ lookup_number b label (length key)
  unfolding lookup_number
  number_is r is =
      ap (λ (s : LookedUp). answer_number s.answer) (sym is ∙ looked) ∙
      sym (later_decides (unless (eqb (length key) 96) 2) _ (unless_holds _ 2 (eq-eqb (length key) 96 room)))

  pub found_key : (found new : List ℕ) → answer ≡ Ok (Some found) → new ≡ found → (0 ≡ lookup_number b label (length key)) × (new ≡ kept 0 key (lookup_of b label).key)
  unfolding answer_number
  found_key found new is put =
      let e = ap answered is in
      (number_is _ e, put ∙ ap (λ (r : LookedUp). r.key) (sym e ∙ looked) ∙ sym (kept_accepted 0 key _ refl))

  pub absent_key : answer ≡ Ok None → (255 ≡ lookup_number b label (length key)) × (key ≡ kept 255 key (lookup_of b label).key)
  unfolding answer_number no_key
  absent_key is = (number_is _ (ap answered is), sym (kept_refused 255 key _ (λ none. absurd (omega (arith, none)))))

  pub refused_key : (refusal : Refusal) (k : ℕ) → answer ≡ Err refusal → k ≡ number refusal → (k ≡ lookup_number b label (length key)) × (key ≡ kept k key (lookup_of b label).key)
  unfolding answer_number no_key
  refused_key refusal k is e = (e ∙ number_is _ (ap answered is), sym (kept_refused k key _ (λ none. some_number refusal (sym e ∙ none))))
