-- A closed session in another phase. Assumes nothing.
use Rattle.bench_refused.specs.Refused.{card_in}
use Rattle.bench_refused.proofs.card_in.Goals as goal

pub returns : goal.returns
unfolding card_in
returns c =
    simp (c.card_with.ensures, c.held_lent.ensures, c.card_phase.ensures, c.closed_card-closed.ensures)
