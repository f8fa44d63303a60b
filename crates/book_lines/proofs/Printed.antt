-- What the program prints of a well-formed book: a line for each card, whose digits find its key. Assumes nothing.
use Prim.Native.Nat.{ℕ, ◌≤◌, ◌<◌}
use mathlib.Core.Path.{◌≡◌, refl, sym, ap, ap₂, ◌∙◌}
use mathlib.Core.List.{List, ◌++◌}
use native.Mathlib.Omega.{arith}
use lib.ListN.{length, take}
use lib.Seq.{length-take-le, get_or-take, ext_get_or}
use Rattle.slices.specs.Slices.{◌!◌, joined}
use Rattle.slices.proofs.Joined.{joined_same, piece_long}
use Rattle.field.specs.Vector.{as_vector}
use Rattle.field.proofs.Vectors.{vector_at, length-vector}
use Rattle.book_form.specs.declared.layout.Front.{Front}
use Rattle.book_form.specs.Book.{label_of, key_of, Fields, front_in, written, Valid, WellFormedBook}
use Rattle.book_form.proofs.BookLayout.{front_written, fields_written, label_written}
use Rattle.book_reader.proofs.WellFormed.{written_accepted}
use Rattle.book_lookup.specs.Answer.{LookedUp}
use Rattle.book_lookup.specs.Lookup.{lookup_of}
use Rattle.book_lookup.proofs.Lookups.{lookup_right}
use Rattle.iccid.specs.Iccid.{label_digits}
use Rattle.iccid.proofs.RoundTrip.{label_back}
use Rattle.book_lines.specs.BookLines.{card_line, sizes_line, card_of, book_text, key_line, answer_line, lookup_text}
use Rattle.book_lines.proofs.CardLines.{cards_text}

-- the elements of a vector that are not beyond its length
vector_elements : (l : List ℕ) → length l ≤ 96 → take (length l) (as_vector l) ≡ l
vector_elements l short =
    let long = length-take-le (length l) (as_vector l) (omega (arith, length-vector (length l) (λ i. l ! i))) in
    ext_get_or 0 (take (length l) (as_vector l)) l long (λ i h.
    let below = rw long at h in
    get_or-take (length l) (as_vector l) i 0 below ∙ vector_at (length l) (λ j. l ! j) i below (omega (arith, below)))

module _ (f : Fields) (v : Valid f) where
  key_long : (i : ℕ) → i < f.front.count → length (key_of f.front f.keys i) ≡ f.front.m
  unfolding key_of
  key_long i h = piece_long f.front.m f.front.count f.keys i v.keys_length h

  small : f.front.count < 4294967296
  small = omega (arith, v.count_value)

  front_of_lem : front_in (written f) ≡ f.front
  front_of_lem = front_written f v.labels_length small

  card_written : (i : ℕ) → i < f.front.count → card_of (written f) i ≡ card_line (label_of f.labels i) (key_of f.front f.keys i)
  unfolding card_of
  card_written i h =
      ap₂ card_line (label_written f v.labels_length small i h)
      (ap₂ (λ (g : Front) (keys : List ℕ). key_of g keys i) front_of_lem (ap (λ (g : Fields). g.keys) (fields_written f v.labels_length small)))

  all_written : book_text (written f) ≡ sizes_line f.front ++ joined f.front.count (λ i. card_line (label_of f.labels i) (key_of f.front f.keys i))
  all_written =
      sym (cards_text (written f) (written_accepted f v)) ∙
      ap (λ (g : Front). sizes_line g ++ joined g.count (card_of (written f))) front_of_lem ∙
      ap (λ (l : List ℕ). sizes_line f.front ++ l) (joined_same f.front.count _ _ card_written)

-- the numbers of a well-formed book, then each card's label and key in its order
pub printed_all : (b : List ℕ) (w : WellFormedBook b) →
    book_text b ≡ sizes_line w.fields.front ++ joined w.fields.front.count
    (λ i. card_line (label_of w.fields.labels i) (key_of w.fields.front w.fields.keys i))
printed_all b w = ap book_text w.laid_out ∙ all_written w.fields w.valid

-- the key of each card of a well-formed book, by the digits of its label
pub printed_found : (b : List ℕ) (w : WellFormedBook b) (i : ℕ) → i < w.fields.front.count →
    lookup_text b (label_digits (label_of w.fields.labels i)) ≡ key_line (key_of w.fields.front w.fields.keys i)
unfolding lookup_text answer_line
printed_found b w i h =
    let f = w.fields in
    let label = label_of f.labels i in
    let key = key_of f.front f.keys i in
    let is = w.valid.each_label i h in
    let long = key_long f w.valid i h in
    let front : front_in b ≡ f.front = ap front_in w.laid_out ∙ front_of_lem f w.valid in
    let found = ap (lookup_of b) (label_back label is) ∙ (lookup_right b label w is).found_when i (h, refl) in
    ap₂ (λ (r : LookedUp) (g : Front). answer_line r.answer (take g.m r.key)) found front ∙
    ap key_line (ap (λ (n : ℕ). take n (as_vector key)) (sym long) ∙ vector_elements key (omega (arith, long, w.valid.m_value.1)))
