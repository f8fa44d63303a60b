-- The writer takes exactly the fields of a well-formed book, the reader gives them back, and what the reader takes is written as it was. Assumes nothing.
use Prim.Native.Nat.{ℕ, ◌*◌, ◌<◌}
use mathlib.Core.Path.{◌≡◌, refl, sym, ap, ◌∙◌}
use mathlib.Core.Logic.{◌↔◌}
use mathlib.Core.List.{List}
use Rattle.std.specs.Prelude.{Result, Ok, IfOk}
use Rattle.refusal.specs.declared.Refusal.{Refusal}
use Rattle.refusal.specs.Refusal.{number_of}
use Rattle.book_form.specs.declared.layout.Front.{Front}
use native.Mathlib.Omega.{arith}
use lib.ListN.{length}
use borrow.Author.Tests.{eq-eqb}
use Rattle.refusal.proofs.Refusals.{first_zero, later_zero, test_holds, equal_holds, both_zero, unless_holds}
use Rattle.field.specs.Vector.{all_below}
use Rattle.field.proofs.Elements.{all_below_at, at_all_below}
use Rattle.system.proofs.SystemLayout.{sizes, sizes_true}
use Rattle.book_form.specs.Book.{book_length, label_of, Fields, written, front_in, fields_in, Valid, Bytes}
use Rattle.book_form.specs.Labels.{label_at}
use Rattle.book_form.proofs.BookLayout.{front_written, fields_written, written_fields}
use Rattle.book_form.proofs.RightValues.{few_cards, right_sizes, right_values}
use Rattle.book_form.proofs.Rising.{rising, none_refused}
use Rattle.book_reader.specs.Reader.{book_refusal}
use Rattle.book_reader.proofs.Readings.{reading_good}
use Rattle.book_reader.proofs.WellFormed.{accepted, valid_fields, written_accepted}
use Rattle.book_writer.specs.Writer.{lengths_refusal, write_refusal, fields_of}

-- ---- what the writer takes

-- labels that stand alone are those that are looked at
same_labels : (labels : List ℕ) → label_at 10 labels ≡ label_of labels
unfolding label_at label_of
same_labels labels = refl

pub record Taken (f : Fields) (out : ℕ) : Type 0 where
  pub valid : Valid f
  pub exact : out ≡ book_length f.front

-- where no length is refused all are those of the count and of m
pub lengths : (labels keys out : ℕ) (h : Front) → 0 ≡ lengths_refusal h labels keys out → (labels ≡ h.count * 10) × (keys ≡ h.count * h.m)
unfolding lengths_refusal
lengths labels keys out h none =
    let behind = later_zero _ _ (sym none) in
    (equal_holds labels (h.count * 10) 2 tt (first_zero _ _ behind), equal_holds keys (h.count * h.m) 2 tt (first_zero _ _ (later_zero _ _ behind)))

pub taken : (f : Fields) (out : ℕ) → write_refusal f out ≡ 0 → Taken f out
unfolding write_refusal lengths_refusal
taken f out none =
    let h = f.front in
    let values = first_zero _ _ none in
    let numbers = first_zero _ _ values in
    let after_numbers = later_zero _ _ values in
    let after_labels = later_zero _ _ after_numbers in
    let after_lengths = later_zero _ _ none in
    let s = sizes h.q h.n h.m (right_sizes h numbers) in
    let r = rising 10 h.count f.labels (first_zero _ _ after_lengths) in
    record {
      valid =
          record {
            count_value = few_cards h numbers;
            q_value = s.q_is_field;
            n_value = (s.n_low, s.n_high);
            m_value = (s.m_low, s.m_high);
            labels_length = equal_holds (length f.labels) (h.count * 10) 2 tt (first_zero _ _ after_numbers);
            keys_length = equal_holds (length f.keys) (h.count * h.m) 2 tt (first_zero _ _ after_labels);
            each_label = rw (sym (same_labels f.labels)) r.each;
            rising = rw (sym (same_labels f.labels)) r.next;
            key_elements = all_below_at h.q f.keys (test_holds (all_below h.q f.keys) 3 tt (later_zero _ _ after_lengths));
          };
      exact = equal_holds out (book_length h) 2 tt (later_zero _ _ after_labels);
    }

-- the output of a call that is not refused has room for the book
pub exact_room : (f : Fields) (h : Front) (labels keys : List ℕ) (out : ℕ) → 0 ≡ write_refusal f out → fields_of h labels keys ≡ f → out ≡ book_length h
exact_room f h labels keys out none same = (taken f out (sym none)).exact ∙ ap (λ (g : Fields). book_length g.front) (sym same)

valid_taken : (f : Fields) → Valid f → write_refusal f (book_length f.front) ≡ 0
unfolding write_refusal lengths_refusal
valid_taken f v =
    let h = f.front in
    both_zero _ _
    (both_zero _ _ (right_values h v.count_value (sizes_true h.q h.n h.m v.q_value v.n_value v.m_value))
    (both_zero _ _ (unless_holds _ 2 (eq-eqb (length f.labels) (h.count * 10) v.labels_length))
    (both_zero _ _ (unless_holds _ 2 (eq-eqb (length f.keys) (h.count * h.m) v.keys_length)) (unless_holds _ 2 (eq-eqb (book_length h) (book_length h) refl)))))
    (both_zero _ _ (none_refused 10 h.count f.labels (record { each = rw (same_labels f.labels) v.each_label; next = rw (same_labels f.labels) v.rising }))
    (unless_holds _ 3 (at_all_below h.q f.keys v.key_elements)))

whole_fields : (b : List ℕ) → length b ≡ book_length (front_in b) → length b ≡ book_length (fields_in b).front
unfolding fields_in
whole_fields b whole = whole

-- ---- the claims

-- the writer takes exactly the fields of a well-formed book, with an output of its length
pub write_takes : (f : Fields) (out : ℕ) → (write_refusal f out ≡ 0) ↔ (Valid f × (out ≡ book_length f.front))
write_takes f out = (
  λ none. let t = taken f out none in (t.valid, t.exact),
  λ k. ap (write_refusal f) k.1 ∙ valid_taken f k.0,
)

-- "reading what the writer wrote gives the fields back": the reader's answer, which its contract gives, is count, q, n and m
pub read_written : (f : Fields) (out : ℕ) → write_refusal f out ≡ 0 →
    ((answer : Result Front Refusal) → ((number_of answer ≡ book_refusal (written f)) × IfOk answer (λ front. front ≡ front_in (written f))) ↔ (answer ≡ Ok f.front)) ×
    (fields_in (written f) ≡ f)
read_written f out none =
    let v = (taken f out none).valid in
    let few = v.count_value in
    let small : f.front.count < 4294967296 = omega (arith, few) in (
      λ answer. (
        λ reading. reading_good (written f) answer reading.0 reading.1 (written_accepted f v) ∙ ap Ok (front_written f v.labels_length small),
        λ is. rw is (sym (written_accepted f v), sym (front_written f v.labels_length small)),
      ),
      fields_written f v.labels_length small,
    )

-- "Reading a book and writing it again gives the same bytes."
pub written_read : (b : List ℕ) → Bytes b → book_refusal b ≡ 0 → (write_refusal (fields_in b) (length b) ≡ 0) × (written (fields_in b) ≡ b)
written_read b bytes none =
    let k = (accepted b none).laid_out in
    (ap (write_refusal (fields_in b)) (whole_fields b k.whole) ∙ valid_taken (fields_in b) (valid_fields b none), written_fields b k bytes)
