-- The reader's answer: "The reader answers the header and the offset and length of each body".
use Rattle.std.specs.Prelude.{ℕ, ◌≡◌, List, leb, eqb, length, take, drop, Result, IfOk}
use Rattle.slices.specs.Slices.{◌!◌, same}
use Rattle.refusal.specs.Refusal.{unless, ◌or_else◌, number_of}
use Rattle.refusal.specs.declared.Refusal.{Refusal}
use Rattle.field.specs.Vector.{all_below}
use Rattle.scheme.specs.Scheme.{is_scheme}
use Rattle.record_form.specs.declared.form.Check.TheVariants.{FileOrder}
use Rattle.record_form.specs.declared.layout.Layout.{Layout}
use Rattle.record_form.specs.Record.{layout_of, record_length, table, header_in, fields_in}
use Rattle.record_form.specs.Form.{are_values, exchanges_refusal}

-- "Records: each in turn 6 (size, edition), 1, 6 (table, length), then 3 or 4, the first bad byte in file order"
unfoldable pub record_refusal : List ℕ → ℕ
record_refusal b =
    let h = header_in b in
    unless (leb 30 (length b)) 6 or_else
    unless (eqb (b ! 0) 1) 6 or_else
    unless (is_scheme (b ! 1)) 1 or_else
    unless (are_values h) 1 or_else
    unless (same (take 24 (drop 6 b)) (table h)) 6 or_else
    unless (eqb (length b) (record_length h)) 6 or_else
    unless (all_below h.q (fields_in b).key) 3 or_else
    exchanges_refusal FileOrder h (fields_in b).exchanges

-- what the reader answers: the layout where nothing is refused, else the refusal
abbrev pub Reading : List ℕ → Result Layout Refusal → Type 0
Reading b answer = (number_of answer ≡ record_refusal b) × IfOk answer (λ l. l ≡ layout_of (header_in b))
