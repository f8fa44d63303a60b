-- Document 01, "Session record": "The writer takes all N rounds and checks form; it doesn't judge them."
use Rattle.std.specs.Prelude.{ℕ, List, eqb, length}
use Rattle.refusal.specs.Refusal.{unless, ◌or_else◌}
use Rattle.field.specs.Vector.{all_below}
use Rattle.scheme.specs.Scheme.{is_scheme}
use Rattle.record_form.specs.declared.layout.Header.{Header}
use Rattle.record_form.specs.declared.form.Check.TheVariants.{Elements, Challenges}
use Rattle.record_form.specs.Record.{Fields, commitments_body, exchanges_body, record_length}
use Rattle.record_form.specs.Form.{are_values, exchanges_refusal}

-- the writer's arguments as the fields of a record
abbrev pub fields_of : Header → List ℕ → List ℕ → List ℕ → Fields
fields_of h key commitments exchanges = record { header = h; key = key; commitments = commitments; exchanges = exchanges }

-- "then arguments left to right, all 1, all 2, all 3, then 4"; "Outputs count as arguments with an exact length."; the scheme is the byte that was given, and
-- the fields have the one that it decodes to
unfoldable pub write_refusal : ℕ → Fields → ℕ → ℕ
write_refusal scheme f out =
    let h = f.header in
    unless (is_scheme scheme) 1 or_else
    unless (are_values h) 1 or_else
    unless (eqb (length f.key) h.m) 2 or_else
    unless (eqb (length f.commitments) (commitments_body h)) 2 or_else
    unless (eqb (length f.exchanges) (exchanges_body h)) 2 or_else
    unless (eqb out (record_length h)) 2 or_else
    unless (all_below h.q f.key) 3 or_else
    exchanges_refusal Elements h f.exchanges or_else
    exchanges_refusal Challenges h f.exchanges
