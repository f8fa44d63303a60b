-- What the reader answers to a record that is not refused. Assumes nothing.
use mathlib.Core.Path.{◌≡◌, ap, ◌∙◌}
use mathlib.Core.List.{List}
use Prim.Native.Nat.{ℕ}
use Rattle.std.specs.Prelude.{Result, Ok, Err}
use Rattle.refusal.specs.declared.Refusal.{Refusal}
use Rattle.refusal.proofs.Answers.{refuses}
use Rattle.record_form.specs.declared.layout.Layout.{Layout}
use Rattle.record_form.specs.Record.{layout_of, header_in}
use Rattle.record.specs.Reader.{record_refusal, Reading}

-- it is the layout
pub reading_good : (b : List ℕ) (answer : Result Layout Refusal) → Reading b answer → record_refusal b ≡ 0 → answer ≡ Ok (layout_of (header_in b))
reading_good b (Ok l) reading none = ap Ok reading.1
reading_good b (Err refusal) reading none = absurd (refuses refusal (reading.0 ∙ none))
