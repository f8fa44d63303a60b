-- The first rejection over a list of records: there is none exactly where every round is accepted, else it is the first rejected round's. Assumes nothing.
use Prim.Native.Nat.{ℕ, zero, suc, ◌+◌}
use mathlib.Core.Path.{◌≡◌, refl, ap, ◌∙◌}
use mathlib.Core.Bool.{not}
use mathlib.Core.List.{List, [], ◌∷◌}
use native.Mathlib.Omega.{arith}
use borrow.Author.Tests.{not-true, not-false}
use Rattle.scheme.specs.declared.Scheme.TheVariants.{ThreePass, FivePass}
use Rattle.record_form.specs.Record.{header_in}
use Rattle.refusal.proofs.Search.{where_none, none_where, found_where}
use Rattle.comparable.specs.declared.Rejection.{Rejection}
use Rattle.comparable.specs.Comparable.{rejected_round, rejected_in, no_rejection, of_fourth, later_rejection, rejection_of}
use Rattle.comparable.proofs.Rejections as R
use Rattle.findings.specs.Findings.{AllAccepted, Each, none_left, each, FirstRejected, rejected_here, rejected_later}

-- the first rejection among these records, the first of which is the k-th
unfoldable pub walk : List ℕ → ℕ → List (List ℕ) → Rejection
walk system k [] = no_rejection
walk system k (b ∷ bs) = rejected_in k (rejected_round system b) (walk system (k + 1) bs)

pub three_walk : (system a b c d : List ℕ) → rejection_of ThreePass system a b c d ≡ walk system 1 (a ∷ b ∷ c ∷ [])
unfolding rejection_of later_rejection of_fourth rejected_in walk
three_walk system a b c d = refl

pub five_walk : (system a b c d : List ℕ) → rejection_of FivePass system a b c d ≡ walk system 1 (a ∷ b ∷ c ∷ d ∷ [])
unfolding rejection_of later_rejection of_fourth rejected_in walk
five_walk system a b c d = refl

-- ---- one record

rounds_accepted : (system b : List ℕ) → rejected_round system b ≡ 0 → AllAccepted system b
unfolding rejected_round
rounds_accepted system b none r h = not-false _ (where_none (header_in b).rounds _ none r h)

none_round : (system b : List ℕ) → AllAccepted system b → rejected_round system b ≡ 0
unfolding rejected_round
none_round system b all = none_where (header_in b).rounds _ (λ r h. ap not (all r h))

rejected_first : (system b : List ℕ) (bs : List (List ℕ)) (r : ℕ) → rejected_round system b ≡ r + 1 → FirstRejected system (b ∷ bs) 1 (r + 1)
unfolding rejected_round
rejected_first system b bs r e =
    let k = found_where (header_in b).rounds _ r e in
    rejected_here b bs r k.within (not-true _ k.holds) (λ j h. not-false _ (k.before j h))

-- ---- the first record of a list

walk_here : (system : List ℕ) (k : ℕ) (b : List ℕ) (bs : List (List ℕ)) (r : ℕ) → rejected_round system b ≡ r + 1 →
    walk system k (b ∷ bs) ≡ record { whose = k; round = r + 1 }
unfolding walk
walk_here system k b bs r e = ap (λ (round : ℕ). rejected_in k round (walk system (k + 1) bs)) e ∙ R.rejected_here k r _

walk_later : (system : List ℕ) (k : ℕ) (b : List ℕ) (bs : List (List ℕ)) → rejected_round system b ≡ 0 → walk system k (b ∷ bs) ≡ walk system (k + 1) bs
unfolding walk
walk_later system k b bs none = ap (λ (round : ℕ). rejected_in k round (walk system (k + 1) bs)) none ∙ R.rejected_later k _

-- ---- all records

pub all_accepted : (system : List ℕ) (k : ℕ) (bs : List (List ℕ)) → (walk system (k + 1) bs).whose ≡ 0 → Each (AllAccepted system) bs
all_accepted system k [] e = none_left
all_accepted system k (b ∷ bs) e = go (rejected_round system b) refl (all_accepted system (k + 1) bs)
  where
    go : (x : ℕ) → rejected_round system b ≡ x → ((walk system (k + 1 + 1) bs).whose ≡ 0 → Each (AllAccepted system) bs) → Each (AllAccepted system) (b ∷ bs)
    go zero none later = each b bs (rounds_accepted system b none) (later (rw (walk_later system (k + 1) b bs none) at e))
    go (suc x) some later =
        let here : k + 1 ≡ 0 = rw (walk_here system (k + 1) b bs x (some ∙ omega arith)) at e in
        absurd (omega arith)

pub none_rejected : (system : List ℕ) (k : ℕ) (bs : List (List ℕ)) → Each (AllAccepted system) bs → (walk system k bs).whose ≡ 0
unfolding walk
none_rejected system k bs none_left = refl
none_rejected system k bs (each b later all rest) =
    ap (λ (first : Rejection). first.whose) (walk_later system k b later (none_round system b all)) ∙ none_rejected system (k + 1) later rest

-- the first rejection is of the record at this place, counted from 1; k others stand before the list
record Found (system : List ℕ) (k : ℕ) (bs : List (List ℕ)) (first : Rejection) : Type 0 where
  place : ℕ
  counted : first.whose ≡ place + k
  rejected : FirstRejected system bs place first.round

found : (system : List ℕ) (k : ℕ) (bs : List (List ℕ)) → ((walk system (k + 1) bs).whose ≡ 0 → ⊥) → Found system k bs (walk system (k + 1) bs)
unfolding walk
found system k [] some = absurd (some refl)
found system k (b ∷ bs) some = go (rejected_round system b) refl (found system (k + 1) bs)
  where
    go : (x : ℕ) → rejected_round system b ≡ x → (((walk system (k + 1 + 1) bs).whose ≡ 0 → ⊥) → Found system (k + 1) bs (walk system (k + 1 + 1) bs)) →
        Found system k (b ∷ bs) (walk system (k + 1) (b ∷ bs))
    go zero none later =
        let same = walk_later system (k + 1) b bs none in
        let f = later (rw same at some) in
        rw same
        (record {
          place = f.place + 1;
          counted = f.counted ∙ omega arith;
          rejected = rejected_later b bs _ _ (rounds_accepted system b none) f.rejected;
        })
    go (suc x) e later =
        let is : rejected_round system b ≡ x + 1 = e ∙ omega arith in
        rw (walk_here system (k + 1) b bs x is) (record { place = 1; counted = omega arith; rejected = rejected_first system b bs x is })

pub first_rejected : (system : List ℕ) (bs : List (List ℕ)) → ((walk system 1 bs).whose ≡ 0 → ⊥) →
    FirstRejected system bs (walk system 1 bs).whose (walk system 1 bs).round
first_rejected system bs some =
    let f = found system 0 bs some in
    let is : (walk system 1 bs).whose ≡ f.place = omega (arith, f.counted) in
    rw is f.rejected
