-- Labels that are not refused: none has a wrong half, and each is below every later one. Assumes nothing.
use Prim.Native.Nat.{ℕ, zero, suc, ◌+◌, ◌-◌, ◌<◌}
use mathlib.Core.Path.{◌≡◌, refl, sym, subst, ◌∙◌}
use mathlib.Core.Bool.{true}
use mathlib.Core.Logic.{⊎_elim}
use mathlib.Core.List.{List}
use native.Mathlib.Nat.{not-suc-le-zero, eq-or-lt_of_le, le_of_suc-le-suc}
use native.Mathlib.Decide.{dec_lt}
use native.Mathlib.Omega.{arith}
use borrow.Author.Tests.{ne_eqb}
use Rattle.refusal.proofs.Refusals.{first_zero, later_zero, test_holds, both_zero, unless_holds, first_of_each, first_of_none}
use Rattle.label.specs.Label.{WellFormedLabel, Below}
use Rattle.label.specs.Tests.{is_label, is_below}
use Rattle.label.proofs.Labels.{well_formed, is_label_lem, below, is_below_lem}
use Rattle.label.proofs.Order.{below_trans, not_below_itself}
use Rattle.book_form.specs.Labels.{label_at, is_above, label_refusal, labels_refusal}

-- labels without a wrong half, each below the next
pub record Rising (count : ℕ) (label : ℕ → List ℕ) : Type 0 where
  pub each : (i : ℕ) → i < count → WellFormedLabel (label i)
  pub next : (i : ℕ) → i + 1 < count → Below (label i) (label (i + 1))

-- ---- exactly where none is refused

above_next : (each : ℕ) (l : List ℕ) (i : ℕ) → is_above each l (i + 1) ≡ is_below (label_at each l i) (label_at each l (i + 1))
unfolding is_above
above_next each l i =
    let before : i + 1 - 1 ≡ i = omega arith in
    rw (ne_eqb (i + 1) 0 (λ none. absurd (omega (arith, none))), before) refl

pub rising : (each count : ℕ) (l : List ℕ) → labels_refusal each count l ≡ 0 → Rising count (label_at each l)
unfolding labels_refusal label_refusal
rising each count l none =
    record {
      each = λ i h. well_formed (label_at each l i) (test_holds (is_label (label_at each l i)) 12 tt (first_zero _ _ (first_of_each count _ none i h)));
      next =
          λ i h.
          below (label_at each l i) (label_at each l (i + 1)) (sym (above_next each l i) ∙ test_holds (is_above each l (i + 1)) 13 tt (later_zero _ _ (first_of_each count _ none (i + 1) h)));
    }

first_above : (each : ℕ) (l : List ℕ) → is_above each l 0 ≡ true
unfolding is_above
first_above each l = refl

above_true : (each count : ℕ) (l : List ℕ) → Rising count (label_at each l) → (i : ℕ) → i < count → is_above each l i ≡ true
above_true each count l r zero h = first_above each l
above_true each count l r (suc i) h =
    let later : suc i ≡ i + 1 = omega arith in
    rw later
    (above_next each l i ∙
    is_below_lem (label_at each l i) (label_at each l (i + 1)) (r.each i (omega arith)).ten_bytes (r.each (i + 1) (omega (arith, h))).ten_bytes (r.next i (omega (arith, h))))

pub none_refused : (each count : ℕ) (l : List ℕ) → Rising count (label_at each l) → labels_refusal each count l ≡ 0
unfolding labels_refusal label_refusal
none_refused each count l r =
    first_of_none count _ (λ i h. both_zero _ _ (unless_holds _ 12 (is_label_lem (label_at each l i) (r.each i h))) (unless_holds _ 13 (above_true each count l r i h)))

-- the same labels rise
pub rising_same : (count : ℕ) (label other : ℕ → List ℕ) → ((i : ℕ) → i < count → label i ≡ other i) → Rising count label → Rising count other
rising_same count label other same r =
    record {
      each = λ i h. subst WellFormedLabel (same i h) (r.each i h);
      next =
          λ i h.
          subst (λ (l : List ℕ). Below l (other (i + 1))) (same i (omega (arith, h))) (subst (λ (l : List ℕ). Below (label i) l) (same (i + 1) h) (r.next i h));
    }

-- ---- any two of them

-- a label is below every later one
pub below_later : (count : ℕ) (label : ℕ → List ℕ) → Rising count label → (i j : ℕ) → i < j → j < count → Below (label i) (label j)
below_later count label r i zero h k = absurd (not-suc-le-zero h)
below_later count label r i (suc j) h k =
    let later : j + 1 ≡ suc j = omega arith in
    let step : Below (label j) (label (suc j)) = subst (λ (n : ℕ). Below (label j) (label n)) later (r.next j (omega (arith, k))) in
    ⊎_elim (λ (same : i ≡ j). subst (λ (n : ℕ). Below (label n) (label (suc j))) (sym same) step)
    (λ (less : i < j). below_trans (label i) (label j) (label (suc j)) (below_later count label r i j less (omega (arith, k))) step)
    (eq-or-lt_of_le (le_of_suc-le-suc h))

-- no two cards have one label
pub one_card : (count : ℕ) (label : ℕ → List ℕ) → Rising count label → (i j : ℕ) → i < count → j < count → label i ≡ label j → i ≡ j
one_card count label r i j hi hj same =
    elim (dec_lt i j) [
      | yes before ↦ absurd (not_below_itself (label j) (subst (λ (l : List ℕ). Below l (label j)) same (below_later count label r i j before hj)))
      | no not_before ↦
          elim (dec_lt j i) [
            | yes after ↦ absurd (not_below_itself (label i) (subst (λ (l : List ℕ). Below l (label i)) (sym same) (below_later count label r j i after hi)))
            | no not_after ↦ omega (arith, not_before, not_after)
          ]
    ]
