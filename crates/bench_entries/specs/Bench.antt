-- What the benchmarks' contracts cite beside the definitions of the functions that they call: a session after each call of one round.
use Rattle.std.specs.Prelude.{ℕ, List}
use Rattle.refusal.specs.Refusal.{kept}
use Rattle.session_state.specs.declared.Verdict.TheVariants.{None}
use Rattle.card_state.specs.declared.session.Card.{Card}
use Rattle.card_state.specs.Card as C
use Rattle.carrier_state.specs.declared.session.Carrier.{Carrier}
use Rattle.carrier_state.specs.Carrier as R

-- ---- the card's session after each call of its one round

unfoldable pub open_card : List ℕ → ℕ → List ℕ → List ℕ → Card
open_card system scheme v s = kept (C.open_refusal system scheme 1 v s) C.closed_card (C.opened_card system scheme 1 s)

unfoldable pub card_committed : List ℕ → ℕ → List ℕ → List ℕ → List ℕ → ℕ → Card
card_committed system scheme v s lent room =
    let card = open_card system scheme v s in
    kept (C.commit_refusal card system lent room) card (C.committed_card card system lent)

unfoldable pub card_answered : List ℕ → ℕ → List ℕ → List ℕ → List ℕ → ℕ → ℕ → ℕ → Card
card_answered system scheme v s lent room α more =
    let card = card_committed system scheme v s lent room in
    kept (C.alpha_refusal card system α more) card (C.answered_card card)

-- ---- the carrier's session after each call of its one round but the last

unfoldable pub open_carrier : List ℕ → ℕ → List ℕ → Carrier
open_carrier system scheme v = kept (R.open_refusal system scheme 1 v) (R.closed_carrier None 0) (R.opened_carrier system scheme 1 v)

unfoldable pub carrier_committed : List ℕ → ℕ → List ℕ → List ℕ → Carrier
carrier_committed system scheme v commitments =
    let c = open_carrier system scheme v in
    kept (R.commitments_refusal c commitments) c (R.with_commitments c commitments)

unfoldable pub carrier_weighed : List ℕ → ℕ → List ℕ → List ℕ → ℕ → Carrier
carrier_weighed system scheme v commitments α =
    let c = carrier_committed system scheme v commitments in
    kept (R.alpha_refusal c α) c (R.with_alpha c α)

unfoldable pub carrier_told : List ℕ → ℕ → List ℕ → List ℕ → ℕ → List ℕ → Carrier
carrier_told system scheme v commitments α middle =
    let c = carrier_weighed system scheme v commitments α in
    kept (R.middle_refusal c middle) c (R.with_middle c middle)

unfoldable pub carrier_asked : List ℕ → ℕ → List ℕ → List ℕ → ℕ → List ℕ → ℕ → Carrier
carrier_asked system scheme v commitments α middle challenge =
    let c = carrier_told system scheme v commitments α middle in
    kept (R.challenge_refusal c challenge) c (R.with_challenge c challenge)
