-- All 24 bytes are compared with the table's. Assumes nothing.
use mathlib.Core.Path.{ap₂, ◌∙◌}
use Rattle.slices.specs.Slices.{same}
use Rattle.slices.proofs.Sameness.{pointwise_same}
use Rattle.record.proofs.table_matches.Goals as goal

pub returns : goal.returns
returns c = c.eq.ensures ∙ pointwise_same _ _ ∙ ap₂ same c.part.ensures c.table.ensures.0
