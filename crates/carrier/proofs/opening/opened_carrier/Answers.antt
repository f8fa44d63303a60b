-- The callees' answers, put together. Assumes nothing.
use Rattle.carrier_state.specs.Carrier.{opened_carrier}
use Rattle.carrier.proofs.opening.opened_carrier.Goals as goal

pub returns : goal.returns
unfolding opened_carrier
returns c =
    simp (c.no_turn-turn.ensures, c.held_commitments-commitments.ensures, c.from_slice-v.ensures, c.m.ensures, c.n.ensures, c.q.ensures, c.scheme_of.ensures)
