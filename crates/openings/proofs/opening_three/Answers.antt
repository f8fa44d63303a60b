-- By cases on the commitment: the first of the two, or the second. Assumes nothing.
use mathlib.Core.Path.{sym, ap, ◌∙◌}
use Rattle.commitment.proofs.Texts.{text_as, no_more}
use Rattle.round.specs.Openings.{string_of}
use Rattle.round.proofs.Clauses.{three_are_two}
use Rattle.openings.proofs.Listed.{first_of_two, second_of_two}
use Rattle.openings.proofs.opening_three.Goals as goal

pub returns-then-k-first_number : goal.returns-then-k-first_number
returns-then-k-first_number c =
    let number = c.first_number.ensures _ _ _ in
    text_as _ _ 0 _ (no_more _ 96 _ c.first_opening.ensures) (ap (string_of _) (first_of_two _ _ (three_are_two _ _ _ _) (c.if-k-first_number.true ∙ number)))

pub returns-else-k-first_number : goal.returns-else-k-first_number
returns-else-k-first_number c =
    let number = c.first_number.ensures _ _ _ in
    text_as _ _ 0 _ (no_more _ 96 _ (c.second_opening.ensures.1 _)) (ap (string_of _) (second_of_two _ _ (three_are_two _ _ _ _) (λ e. c.if-k-first_number.false (e ∙ sym number))))
