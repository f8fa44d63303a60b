-- A closed session in another phase. Assumes nothing.
use Rattle.bench_refused.specs.Refused.{carrier_in}
use Rattle.bench_refused.proofs.carrier_in.Goals as goal

pub returns : goal.returns
unfolding carrier_in
returns c =
    simp (c.carrier_with.ensures, c.carrier_phase.ensures, c.closed_carrier-closed.ensures)
