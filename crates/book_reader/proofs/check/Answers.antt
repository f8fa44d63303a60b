-- The tests in order, left at the first that refuses. Assumes nothing.
use Prim.Native.Nat.{ℕ, ◌*◌, ◌≤◌}
use mathlib.Core.Path.{◌≡◌, sym, ap, ap₂, ◌∙◌}
use mathlib.Core.Bool.{Bool}
use mathlib.Core.List.{List}
use native.Mathlib.Omega.{arith}
use native.Mathlib.Nat.{le_refl}
use lib.ListN.{length, take, drop, length-drop}
use lib.Seq.{length-take-le}
use Rattle.std.proofs.Common.{rules}
use Rattle.refusal.specs.Refusal.{unless}
use Rattle.refusal.proofs.Refusals.{later_zero, equal_holds}
use Rattle.refusal.proofs.Answers.{ends_chain, goes_on_chain}
use Rattle.field.specs.Vector.{all_below}
use Rattle.book_form.specs.declared.layout.Front.{Front}
use Rattle.book_form.specs.Book.{book_length, front_in, table_in, fields_in}
use Rattle.book_form.specs.Labels.{labels_refusal}
use Rattle.book_form.proofs.BookLayout.{room}
use Rattle.book_reader.specs.Reader.{offsets_refusal, front_refusal, book_refusal}
use Rattle.book_reader.proofs.check.Goals as goal

whole : (n : ℕ) (h : Front) → front_refusal h n ≡ 0 → n ≡ book_length h
unfolding front_refusal
whole n h none = equal_holds n (book_length h) 6 tt (later_zero _ _ (later_zero _ _ none))

-- the table is whole where nothing in front of it is refused
table_room : (b t : List ℕ) (h : Front) → 0 ≡ front_refusal h (length b) → h ≡ front_in b → t ≡ table_in b → h.count * 14 ≤ length t
unfolding table_in
table_room b t h none front table =
    let long = whole (length b) (front_in b) (ap (λ (g : Front). front_refusal g (length b)) (sym front) ∙ sym none) in
    let size : length (take ((front_in b).count * 14) (drop 7 b)) ≡ (front_in b).count * 14 = length-take-le ((front_in b).count * 14) (drop 7 b) (rw (length-drop 7 b) (room (length b) (front_in b) long)) in
    rw (front, table, size) (le_refl _)

-- each test is of the book's own parts
module _ (b : List ℕ) (h : Front) (front : h ≡ front_in b) where
  of_front : (x : ℕ) → x ≡ front_refusal h (length b) → x ≡ front_refusal (front_in b) (length b)
  of_front x is = is ∙ ap (λ (g : Front). front_refusal g (length b)) front

  of_offsets : (x : ℕ) (t : List ℕ) → x ≡ offsets_refusal h t → t ≡ table_in b → x ≡ offsets_refusal (front_in b) (table_in b)
  of_offsets x t is table = is ∙ ap₂ offsets_refusal front table

  of_labels : (x each : ℕ) (t : List ℕ) → x ≡ labels_refusal each h.count t → (t ≡ table_in b) × (each ≡ 14) → x ≡ labels_refusal 14 (front_in b).count (table_in b)
  of_labels x each t is (table, entry) = is ∙ ap (λ (k : ℕ). labels_refusal k h.count t) entry ∙ ap₂ (λ (g : Front) (l : List ℕ). labels_refusal 14 g.count l) front table

  of_keys : (x : ℕ) (t : Bool) (k : List ℕ) → x ≡ unless t 3 → t ≡ all_below h.q k → k ≡ (fields_in b).keys → x ≡ unless (all_below (front_in b).q (fields_in b).keys) 3
  of_keys x t k is tested keys = is ∙ ap (λ (u : Bool). unless u 3) (tested ∙ ap₂ (λ (g : Front) (l : List ℕ). all_below g.q l) front keys)

pub check_offsets-requires : goal.check_offsets-requires
check_offsets-requires c =
    table_room _ _ _ c.in_ok-check_front.ensures c.front_of-front.ensures c.table_of.ensures

pub returns-in_err-check_front : goal.returns-in_err-check_front
unfolding book_refusal
returns-in_err-check_front c =
    ends_chain _ _ _ _ (search rules) (of_front _ _ c.front_of-front.ensures _ c.in_err-check_front.ensures)

pub returns-in_err-check_offsets : goal.returns-in_err-check_offsets
unfolding book_refusal
returns-in_err-check_offsets c =
    let front = c.front_of-front.ensures in
    goes_on_chain _ _ _ (of_front _ _ front _ c.in_ok-check_front.ensures)
    (ends_chain _ _ _ _ (search rules) (of_offsets _ _ front _ _ c.in_err-check_offsets.ensures c.table_of.ensures))

pub check-requires : goal.check-requires
check-requires c =
    let labels = c.labels_of.ensures in
    let room = table_room _ _ _ c.in_ok-check_front.ensures c.front_of-front.ensures labels.0 in
    (rw labels.1 room, rw labels.1 (omega arith))

pub returns-in_err-check : goal.returns-in_err-check
unfolding book_refusal
returns-in_err-check c =
    let front = c.front_of-front.ensures in
    goes_on_chain _ _ _ (of_front _ _ front _ c.in_ok-check_front.ensures)
    (goes_on_chain _ _ _ (of_offsets _ _ front _ _ c.in_ok-check_offsets.ensures c.table_of.ensures)
    (ends_chain _ _ _ _ (search rules) (of_labels _ _ front _ _ _ c.in_err-check.ensures c.labels_of.ensures)))

pub returns : goal.returns
unfolding book_refusal
returns c =
    let front = c.front_of-front.ensures in
    goes_on_chain _ _ _ (of_front _ _ front _ c.in_ok-check_front.ensures)
    (goes_on_chain _ _ _ (of_offsets _ _ front _ _ c.in_ok-check_offsets.ensures c.table_of.ensures)
    (goes_on_chain _ _ _ (of_labels _ _ front _ _ _ c.in_ok-check.ensures c.labels_of.ensures)
    (of_keys _ _ front _ _ _ c.require.ensures c.all_below.ensures c.keys_of.ensures)))
