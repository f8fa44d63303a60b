-- What the lookup answers: absent exactly where no card has the label, else the key of the one card that has it; refused exactly where the book or the label is
-- not well-formed. Assumes nothing.
use Prim.Native.Nat.{ℕ, ◌≤◌, ◌+◌, ◌-◌, ◌<◌}
use mathlib.Core.Path.{◌≡◌, refl, sym, ap, subst, ◌∙◌}
use mathlib.Core.Bool.{Bool, true, false}
use mathlib.Core.Logic.{◌↔◌}
use mathlib.Core.List.{List}
use Rattle.std.specs.Prelude.{Option, Some, None, Result, Ok, Err}
use Rattle.refusal.specs.declared.Refusal.{Refusal}
use native.Mathlib.Omega.{arith}
use lib.Dec.{eqb}
use lib.ListN.{length}
use borrow.Author.Tests.{eqb-true, eqb-false, eq-eqb, ne_eqb}
use Rattle.slices.specs.Slices.{same, number}
use Rattle.slices.proofs.Sameness.{same_true, same_by}
use Rattle.field.specs.Vector.{as_vector}
use Rattle.refusal.specs.Refusal.{first_where, number as refusal_number, counted as place_counted}
use Rattle.book_form.proofs.Loops.{some_number}
use Rattle.refusal.proofs.Refusals.{first_zero, later_zero, test_holds, both_zero, unless_holds, unless_most, or_else_most}
use Rattle.refusal.proofs.Search.{none_where, where_found, found_where}
use Rattle.label.specs.Label.{WellFormedLabel}
use Rattle.label.specs.Tests.{is_label}
use Rattle.label.proofs.Labels.{well_formed as well_formed_label, is_label_lem}
use Rattle.book_form.specs.declared.layout.Front.{Front}
use Rattle.book_form.specs.Book.{label_of, key_of, Fields, written, front_in, table_in, fields_in, Valid, WellFormedBook, Bytes}
use Rattle.book_form.specs.Labels.{label_at}
use Rattle.book_form.proofs.BookLayout.{front_written, fields_written, label_written}
use Rattle.book_form.proofs.Rising.{one_card}
use Rattle.book_reader.specs.Reader.{book_refusal}
use Rattle.book_reader.proofs.WellFormed.{written_accepted, well_formed, refusal_most}
use Rattle.book_lookup.specs.Claim.{HasLabel, RightAnswer}
use Rattle.book_lookup.specs.Answer.{Answer, Found, Absent, Refused, LookedUp}
use Rattle.book_lookup.specs.Lookup.{place_in, key_in, no_key, lookup_at, lookup_refusal, lookup_of, refusal_of, answered}

-- ---- the three cases

pub looked_refused : (b label : List ℕ) → (lookup_refusal b label ≡ 0 → ⊥) → lookup_of b label ≡ no_key (Refused (lookup_refusal b label))
unfolding lookup_of
looked_refused b label some = simp (ne_eqb (lookup_refusal b label) 0 some)

pub looked_absent : (b label : List ℕ) → lookup_refusal b label ≡ 0 → place_in (table_in b) (front_in b).count label ≡ 0 → lookup_of b label ≡ no_key Absent
unfolding lookup_of lookup_at
looked_absent b label none nowhere = simp (eq-eqb (lookup_refusal b label) 0 none, eq-eqb (place_in (table_in b) (front_in b).count label) 0 nowhere)

pub looked_found : (b label : List ℕ) → lookup_refusal b label ≡ 0 → (place_in (table_in b) (front_in b).count label ≡ 0 → ⊥) →
    lookup_of b label ≡ record { answer = Found; key = key_in b (place_in (table_in b) (front_in b).count label - 1) }
unfolding lookup_of lookup_at
looked_found b label none somewhere = simp (eq-eqb (lookup_refusal b label) 0 none, ne_eqb (place_in (table_in b) (front_in b).count label) 0 somewhere)

-- ---- the code's answers

pub answered_refused : (b label : List ℕ) (answer : Result (Option (List ℕ)) Refusal) (refusal : Refusal) → answer ≡ Err refusal → refusal_number refusal ≡ lookup_refusal b label →
    answered answer ≡ lookup_of b label
answered_refused b label answer refusal handed is =
    rw handed (ap (λ (k : ℕ). no_key (Refused k)) is ∙ sym (looked_refused b label (λ none. some_number refusal (is ∙ none))))

pub answered_none : (b label : List ℕ) (place : Option ℕ) → 0 ≡ lookup_refusal b label → place_counted place ≡ place_in (table_in b) (front_in b).count label →
    place ≡ None → answered (Ok None) ≡ lookup_of b label
answered_none b label place taken here none = sym (looked_absent b label (sym taken) (sym here ∙ ap place_counted none))

pub answered_some : (b label key : List ℕ) (place : Option ℕ) (i : ℕ) → 0 ≡ lookup_refusal b label → place_counted place ≡ place_in (table_in b) (front_in b).count label →
    place ≡ Some i → key ≡ key_in b i → answered (Ok (Some key)) ≡ lookup_of b label
answered_some b label key place i taken here some is =
    let at : i + 1 ≡ place_in (table_in b) (front_in b).count label = sym (ap place_counted some) ∙ here in
    let index : i ≡ place_in (table_in b) (front_in b).count label - 1 = omega (arith, at) in
    let found = is ∙ ap (key_in b) index in
    (λ j. record { answer = Found; key = found j }) ∙ sym (looked_found b label (sym taken) (λ nowhere. absurd (omega (arith, at, nowhere))))

-- no card stands behind the last
pub none_behind : (b label : List ℕ) (place : Option ℕ) (i : ℕ) → place_counted place ≡ place_in (table_in b) (front_in b).count label → place ≡ Some i →
    (front_in b).count ≤ i → answered (Ok None) ≡ lookup_of b label
unfolding place_in
none_behind b label place i here some behind =
    let at : place_in (table_in b) (front_in b).count label ≡ i + 1 = sym here ∙ ap place_counted some in
    let inside = (found_where (front_in b).count _ i at).within in
    absurd (omega (arith, inside, behind))

-- the checked book has the bytes of the call
pub place_there : (s b label : List ℕ) (place : ℕ) → s ≡ b → place ≡ place_in (table_in s) (front_in s).count label → place ≡ place_in (table_in b) (front_in b).count label
place_there s b label place same here = here ∙ ap (λ (t : List ℕ). place_in (table_in t) (front_in t).count label) same

-- ---- the claims

-- which case an answer is
unfoldable case_of : Answer → ℕ
case_of Found = 0
case_of Absent = 1
case_of (Refused number) = 2

module _ (f : Fields) (v : Valid f) (label : List ℕ) (w : WellFormedLabel label) where
  book_good : book_refusal (written f) ≡ 0
  book_good = written_accepted f v

  small : f.front.count < 4294967296
  small = let few = v.count_value in omega (arith, few)

  not_refused : lookup_refusal (written f) label ≡ 0
  unfolding lookup_refusal
  not_refused =
      both_zero _ _ book_good (both_zero _ _ (unless_holds _ 2 (eq-eqb (length label) 10 w.ten_bytes)) (unless_holds _ 12 (is_label_lem label w)))

  counted : (front_in (written f)).count ≡ f.front.count
  counted = ap (λ (h : Front). h.count) (front_written f v.labels_length small)

  place_is : place_in (table_in (written f)) (front_in (written f)).count label ≡ first_where f.front.count (λ i. same (label_at 14 (table_in (written f)) i) label)
  unfolding place_in
  place_is = ap (λ (k : ℕ). first_where k (λ i. same (label_at 14 (table_in (written f)) i) label)) counted

  only_card : (i j : ℕ) → HasLabel f label i → HasLabel f label j → i ≡ j
  only_card i j (hi, ei) (hj, ej) =
      one_card f.front.count (label_of f.labels) (record { each = v.each_label; next = v.rising }) i j hi hj (ei ∙ sym ej)

  found : (i : ℕ) → HasLabel f label i → place_in (table_in (written f)) (front_in (written f)).count label ≡ i + 1
  found i (h, e) =
      place_is ∙
      where_found f.front.count _ i
      (record { within = h; holds = same_by _ label (label_written f v.labels_length small i h ∙ e); before = λ j below. differs j below })
    where
      differs : (j : ℕ) → j < i → same (label_at 14 (table_in (written f)) j) label ≡ false
      differs j below = go (same (label_at 14 (table_in (written f)) j) label) refl
        where
          go : (t : Bool) → same (label_at 14 (table_in (written f)) j) label ≡ t → same (label_at 14 (table_in (written f)) j) label ≡ false
          go true is =
              let hj : j < f.front.count = omega (arith, below, h) in
              let there = sym (label_written f v.labels_length small j hj) ∙ same_true _ label is in
              let one = only_card j i (hj, there) (h, e) in
              absurd (omega (arith, one, below))
          go false no_match = no_match

  key_written : (i : ℕ) → key_in (written f) i ≡ as_vector (key_of f.front f.keys i)
  unfolding key_in
  key_written i =
      ap (λ (h : Front). as_vector (key_of h (fields_in (written f)).keys i)) (front_written f v.labels_length small) ∙
      ap (λ (g : Fields). as_vector (key_of f.front g.keys i)) (fields_written f v.labels_length small)

  found_answer : (i : ℕ) → HasLabel f label i → lookup_of (written f) label ≡ record { answer = Found; key = as_vector (key_of f.front f.keys i) }
  found_answer i h =
      let here = found i h in
      let index : place_in (table_in (written f)) (front_in (written f)).count label - 1 ≡ i = omega (arith, here) in
      let key = ap (key_in (written f)) index ∙ key_written i in
      looked_found (written f) label not_refused (λ none. absurd (omega (arith, here, none))) ∙ (λ j. record { answer = Found; key = key j })

  absent_answer : ((i : ℕ) → HasLabel f label i → ⊥) → lookup_of (written f) label ≡ no_key Absent
  absent_answer nobody = looked_absent (written f) label not_refused (place_is ∙ none_where f.front.count _ (λ i h. differs i h))
    where
      differs : (i : ℕ) → i < f.front.count → same (label_at 14 (table_in (written f)) i) label ≡ false
      differs i h = go (same (label_at 14 (table_in (written f)) i) label) refl
        where
          go : (t : Bool) → same (label_at 14 (table_in (written f)) i) label ≡ t → same (label_at 14 (table_in (written f)) i) label ≡ false
          go true is = absurd (nobody i (h, sym (label_written f v.labels_length small i h) ∙ same_true _ label is))
          go false no_match = no_match

  right : RightAnswer f label (lookup_of (written f) label)
  unfolding case_of no_key
  right =
      record {
        absent_when = (
          λ absent i h. absurd (omega (arith, sym (ap (λ (r : LookedUp). case_of r.answer) (found_answer i h)) ∙ ap case_of absent)),
          λ nobody. ap (λ (r : LookedUp). r.answer) (absent_answer nobody),
        );
        found_when = found_answer;
        one_card = only_card;
      }

-- of every well-formed book and label
pub lookup_right : (b label : List ℕ) (w : WellFormedBook b) → WellFormedLabel label → RightAnswer w.fields label (lookup_of b label)
lookup_right b label w is = subst (λ (l : List ℕ). RightAnswer w.fields label (lookup_of l label)) (sym w.laid_out) (right w.fields w.valid label is)

-- "the book's own refusals, then of the label": the number is 0 exactly where both are well-formed
pub answer_number_lem : (b label : List ℕ) → refusal_of (lookup_of b label).answer ≡ lookup_refusal b label
unfolding lookup_of lookup_at refusal_of no_key
answer_number_lem b label = go (eqb (lookup_refusal b label) 0) (eqb (place_in (table_in b) (front_in b).count label) 0) refl refl
  where
    go : (t u : Bool) → eqb (lookup_refusal b label) 0 ≡ t → eqb (place_in (table_in b) (front_in b).count label) 0 ≡ u → refusal_of (lookup_of b label).answer ≡ lookup_refusal b label
    go true true none nowhere = ap (λ (r : LookedUp). refusal_of r.answer) (looked_absent b label (eqb-true _ _ none) (eqb-true _ _ nowhere)) ∙ sym (eqb-true _ _ none)
    go true false none somewhere = ap (λ (r : LookedUp). refusal_of r.answer) (looked_found b label (eqb-true _ _ none) (eqb-false _ _ somewhere)) ∙ sym (eqb-true _ _ none)
    go false u some any = ap (λ (r : LookedUp). refusal_of r.answer) (looked_refused b label (eqb-false _ _ some))

-- no number is above 13
pub lookup_most : (b label : List ℕ) → lookup_refusal b label ≤ 13
unfolding lookup_refusal
lookup_most b label = or_else_most _ _ 13 (refusal_most b) (or_else_most _ _ 13 (unless_most _ 2 13 tt) (unless_most _ 12 13 tt))

pub lookup_refused : (b label : List ℕ) → Bytes b → (refusal_of (lookup_of b label).answer ≡ 0) ↔ (WellFormedBook b × WellFormedLabel label)
unfolding lookup_refusal
lookup_refused b label bytes = (
  λ none.
      let zeroed = sym (answer_number_lem b label) ∙ none in
      ((well_formed b bytes).0 (first_zero _ _ zeroed), well_formed_label label (test_holds (is_label label) 12 tt (later_zero _ _ (later_zero _ _ zeroed)))),
  λ k.
      answer_number_lem b label ∙
      both_zero _ _ ((well_formed b bytes).1 k.0) (both_zero _ _ (unless_holds _ 2 (eq-eqb (length label) 10 k.1.ten_bytes)) (unless_holds _ 12 (is_label_lem label k.1))),
)
