-- The sessions that refused calls are timed on: a closed one, put in a phase that is told by its number, as `phase_number` counts them.
use Rattle.std.specs.Prelude.{ℕ, cond, eqb}
use Rattle.session_state.specs.declared.Verdict.TheVariants.{None}
use Rattle.card_state.specs.declared.session.CardPhase.{CardPhase}
use Rattle.card_state.specs.declared.session.CardPhase.TheVariants.{Commit, AnswerAlpha, Reply, Closed as ClosedCard}
use Rattle.card_state.specs.declared.session.Card.{Card}
use Rattle.card_state.specs.Card.{closed_card, card_with, held_lent}
use Rattle.carrier_state.specs.declared.session.CarrierPhase.{CarrierPhase}
use Rattle.carrier_state.specs.declared.session.CarrierPhase.TheVariants.{TakeCommitments, SetAlpha, TakeMiddle, SetChallenge, TakeReply}
use Rattle.carrier_state.specs.declared.session.CarrierPhase.TheVariants.{Closed as ClosedCarrier}
use Rattle.carrier_state.specs.declared.session.Carrier.{Carrier}
use Rattle.carrier_state.specs.Carrier.{closed_carrier, carrier_with}

unfoldable pub card_phase : ℕ → CardPhase
card_phase number = cond (eqb number 0) (ClosedCard None) (cond (eqb number 1) Commit (cond (eqb number 2) AnswerAlpha Reply))

unfoldable pub card_in : ℕ → Card
card_in phase = card_with closed_card (card_phase phase) closed_card.round (held_lent closed_card) closed_card.e1

unfoldable pub carrier_phase : ℕ → CarrierPhase
carrier_phase number =
    cond (eqb number 0) (ClosedCarrier None)
    (cond (eqb number 1) TakeCommitments
    (cond (eqb number 2) SetAlpha (cond (eqb number 3) TakeMiddle (cond (eqb number 4) SetChallenge TakeReply))))

unfoldable pub carrier_in : ℕ → Carrier
carrier_in phase =
    let closed = closed_carrier None 0 in
    carrier_with closed (carrier_phase phase) closed.accepted closed.commitments closed.turn closed.challenge
