-- The reader's answer: document 02, paper 2.
use Rattle.std.specs.Prelude.{ℕ, List, leb, eqb, length, take, drop}
use Rattle.slices.specs.Slices.{piece, number}
use Rattle.refusal.specs.Refusal.{unless, ◌or_else◌, first_of}
use Rattle.field.specs.Vector.{all_below}
use Rattle.book_form.specs.declared.layout.Front.{Front}
use Rattle.book_form.specs.Book.{offset_of, book_length, front_in, table_in, fields_in}
use Rattle.book_form.specs.Values.{values_refusal}
use Rattle.book_form.specs.Labels.{labels_refusal}

-- the four bytes behind card i's label are where its key starts
unfoldable pub offset_refusal : Front → List ℕ → ℕ → ℕ
offset_refusal h table i = unless (eqb (number (take 4 (drop 10 (piece 14 i table)))) (offset_of h i)) 6

-- those of all cards
unfoldable pub offsets_refusal : Front → List ℕ → ℕ
offsets_refusal h table = first_of h.count (offset_refusal h table)

-- "6 for its size (under 7) and count comes first, then 1, then 6 for its table and length": all of it that the first bytes and the length decide
unfoldable pub front_refusal : Front → ℕ → ℕ
front_refusal h long =
    unless (leb 7 long) 6 or_else
    values_refusal h or_else
    unless (eqb long (book_length h)) 6

-- and its table; "then the first entry at fault decides, 12 before 13; then 3 for a key byte"
unfoldable pub book_refusal : List ℕ → ℕ
book_refusal b =
    let h = front_in b in
    front_refusal h (length b) or_else
    offsets_refusal h (table_in b) or_else
    labels_refusal 14 h.count (table_in b) or_else
    unless (all_below h.q (fields_in b).keys) 3
