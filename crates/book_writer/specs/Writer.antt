-- The writer's answer: document 02, paper 2.
use Rattle.std.specs.Prelude.{ℕ, ◌*◌, List, eqb, length}
use Rattle.refusal.specs.Refusal.{unless, ◌or_else◌}
use Rattle.field.specs.Vector.{all_below}
use Rattle.book_form.specs.declared.layout.Front.{Front}
use Rattle.book_form.specs.Book.{book_length, Fields}
use Rattle.book_form.specs.Values.{values_refusal}
use Rattle.book_form.specs.Labels.{labels_refusal}

-- the writer's arguments as the fields of a book
abbrev pub front_of : ℕ → ℕ → ℕ → ℕ → Front
front_of count q n m = record { count = count; q = q; n = n; m = m }

abbrev pub fields_of : Front → List ℕ → List ℕ → Fields
fields_of h labels keys = record { front = h; labels = labels; keys = keys }

-- 6 for the "count comes first, then 1", then "2 for its slices in place of the second 6": all that the values and the lengths decide
unfoldable pub lengths_refusal : Front → ℕ → ℕ → ℕ → ℕ
lengths_refusal h labels keys out =
    values_refusal h or_else
    unless (eqb labels (h.count * 10)) 2 or_else
    unless (eqb keys (h.count * h.m)) 2 or_else
    unless (eqb out (book_length h)) 2

-- "The writer has this order": "then the first entry at fault decides, 12 before 13; then 3 for a key byte"
unfoldable pub write_refusal : Fields → ℕ → ℕ
write_refusal f out =
    let h = f.front in
    lengths_refusal h (length f.labels) (length f.keys) out or_else
    labels_refusal 10 h.count f.labels or_else
    unless (all_below h.q f.keys) 3
