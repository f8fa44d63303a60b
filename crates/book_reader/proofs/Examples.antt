-- A book of three cards, which antt computes to be well-formed. Assumes nothing.
use Prim.Native.Nat.{ℕ}
use mathlib.Core.Path.{◌≡◌, refl}
use mathlib.Core.List.{List, [], ◌∷◌, ◌++◌}
use Rattle.slices.specs.Slices.{joined, number}
use Rattle.refusal.specs.Refusal.{unless, ◌or_else◌, first_of}
use Rattle.field.specs.Ops.{is_field}
use Rattle.field.specs.Vector.{all_below}
use Rattle.field.proofs.Elements.{all_below_at}
use Rattle.system.specs.System.{is_size, are_sizes}
use Rattle.label.specs.Label.{halves}
use Rattle.label.specs.Tests.{are_digits, are_last, all_of, is_label, rises, is_below}
use Rattle.book_form.specs.Book.{offset_of, book_length, front_in, table_in, fields_in, WellFormedBook, Bytes}
use Rattle.book_form.specs.Values.{values_refusal}
use Rattle.book_form.specs.Labels.{label_at, is_above, label_refusal, labels_refusal}
use Rattle.book_reader.specs.Reader.{offset_refusal, offsets_refusal, front_refusal, book_refusal}
use Rattle.book_reader.proofs.WellFormed.{well_formed}

-- labels that differ in their last bytes; with 16 and 243 it is that of ICCID 8944100000000000013
unfoldable pub label_ending : ℕ → ℕ → List ℕ
label_ending ninth tenth = 152 ∷ 68 ∷ 1 ∷ 0 ∷ 0 ∷ 0 ∷ 0 ∷ 0 ∷ ninth ∷ tenth ∷ []

-- q = 7, n = 3, m = 2; keys 03 01, 05 06 and 00 04; the first two labels end in 39 and in 3F
unfoldable pub three_cards : List ℕ
three_cards =
    3 ∷ 0 ∷ 0 ∷ 0 ∷ 7 ∷ 3 ∷ 2 ∷
    (label_ending 16 147 ++ 49 ∷ 0 ∷ 0 ∷ 0 ∷
    (label_ending 16 243 ++ 51 ∷ 0 ∷ 0 ∷ 0 ∷
    (label_ending 32 0 ++ 53 ∷ 0 ∷ 0 ∷ 0 ∷ 3 ∷ 1 ∷ 5 ∷ 6 ∷ 0 ∷ 4 ∷ [])))

pub worked_book : book_refusal three_cards ≡ 0
unfolding three_cards label_ending book_refusal front_refusal values_refusal offsets_refusal offset_refusal labels_refusal label_refusal is_above label_at is_label is_below all_of are_digits are_last rises halves
    front_in table_in fields_in offset_of book_length joined number first_of unless ◌or_else◌ are_sizes is_size is_field all_below
worked_book = refl

are_bytes : Bytes three_cards
unfolding three_cards label_ending all_below
are_bytes = all_below_at 256 three_cards refl

pub three_cards_lem : WellFormedBook three_cards
three_cards_lem = (well_formed three_cards are_bytes).0 worked_book
