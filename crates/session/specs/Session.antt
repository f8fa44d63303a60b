-- Document 01, "Sessions": both ends, their calls, and what has happened so far. A call's refusal, the session that it gives back and what it sends are the
-- definitions that the contracts of `card` and `carrier` cite.
use Rattle.std.specs.Prelude.{ℕ, ◌+◌, Bool, cond, List, [], ◌∷◌, eqb}
use Rattle.std.proofs.Math.Option.{Option, some, none}
use Rattle.refusal.specs.Refusal.{kept}
use Rattle.scheme.specs.declared.Scheme.{Scheme}
use Rattle.scheme.specs.Scheme.{scheme_of}
use Rattle.commitment.specs.declared.Domain.{Domain}
use Rattle.card_state.specs.declared.session.Card.{Card}
use Rattle.card_state.specs.Card as CardCalls
use Rattle.carrier_state.specs.declared.session.Carrier.{Carrier}
use Rattle.carrier_state.specs.Carrier as CarrierCalls

-- what both ends are opened with: "the same system, scheme, N and v", and the card's s. Whether F(s) = v, and whether the openings are refused, is not said
-- here but by `Openable` (Played.antt)
pub record Terms : Type 0 where
  pub system : List ℕ
  pub scheme : ℕ
  pub rounds : ℕ
  pub key : List ℕ
  pub secret : List ℕ

-- the scheme of that byte
abbrev pub passes : Terms → Scheme
passes o = scheme_of o.scheme

-- what stands before ρ in every string that is hashed in the session
abbrev pub domain_of : Terms → Domain
domain_of o = record { scheme = passes o }

-- "the card's commit, reply to α and reply; the carrier's taking of commitments, setting of α, taking of t1 and e1, setting of the challenge and taking of
-- a reply"; an output is given by its length
pub data Call : Type 0 where
  commit : (system lent : List ℕ) (out : ℕ) → Call
  answer_alpha : (system : List ℕ) (α out : ℕ) → Call
  reply : (challenge out : ℕ) → Call
  take_commitments : (commitments : List ℕ) → Call
  set_alpha : (α : ℕ) → Call
  take_middle : (middle : List ℕ) → Call
  set_challenge : (challenge : ℕ) → Call
  take_reply : (system reply : List ℕ) → Call

-- ---- what has happened, by the round, counted from 0

abbrev pub Log : Type 0 → Type 0
Log A = ℕ → Option A

unfoldable pub put : {A : Type 0} → Log A → ℕ → A → Log A
put log r x k = cond (eqb k r) (some x) (log k)

-- what the card has given
pub record Given : Type 0 where
  pub commitments : Log (List ℕ)
  pub middles : Log (List ℕ)
  pub replies : Log (List ℕ)

-- what the carrier has set
pub record Asked : Type 0 where
  pub alphas : Log ℕ
  pub challenges : Log ℕ

-- what the carrier has taken before a reply
pub record Taken : Type 0 where
  pub commitments : Log (List ℕ)
  pub middles : Log (List ℕ)

-- a reply that the carrier has taken, the system lent for it, and whether the answer was accept
pub record Judgement : Type 0 where
  pub system : List ℕ
  pub reply : List ℕ
  pub answer : Bool

-- the rounds over at each end, and what was given, set and taken there; nothing of the sessions
pub record History : Type 0 where
  pub card_round : ℕ
  pub given : Given
  pub carrier_round : ℕ
  pub asked : Asked
  pub taken : Taken
  pub judged : Log Judgement

-- both ends' sessions, and what has happened
pub record World : Type 0 where
  pub card : Card
  pub carrier : Carrier
  pub history : History

-- "both just opened"
unfoldable pub opened : Terms → World
opened o =
    record {
      card = CardCalls.opened_card o.system o.scheme o.rounds o.secret;
      carrier = CarrierCalls.opened_carrier o.system o.scheme o.rounds o.key;
      history =
          record {
            card_round = 0;
            given = record { commitments = λ r. none; middles = λ r. none; replies = λ r. none };
            carrier_round = 0;
            asked = record { alphas = λ r. none; challenges = λ r. none };
            taken = record { commitments = λ r. none; middles = λ r. none };
            judged = λ r. none;
          };
    }

-- ---- one call

unfoldable pub refusal : World → Call → ℕ
refusal w (commit b lent out) = CardCalls.commit_refusal w.card b lent out
refusal w (answer_alpha b α out) = CardCalls.alpha_refusal w.card b α out
refusal w (reply challenge out) = CardCalls.reply_refusal w.card challenge out
refusal w (take_commitments commitments) = CarrierCalls.commitments_refusal w.carrier commitments
refusal w (set_alpha α) = CarrierCalls.alpha_refusal w.carrier α
refusal w (take_middle middle) = CarrierCalls.middle_refusal w.carrier middle
refusal w (set_challenge challenge) = CarrierCalls.challenge_refusal w.carrier challenge
refusal w (take_reply b r) = CarrierCalls.reply_refusal w.carrier b r

-- "Each gets the session that the last call on its end gave back, and nothing else changes a session between."
abbrev pub card_moves : World → Card → ℕ → Given → World
card_moves w card round given =
    let h = w.history in
    record {
      card = card;
      carrier = w.carrier;
      history = record { card_round = round; given = given; carrier_round = h.carrier_round; asked = h.asked; taken = h.taken; judged = h.judged };
    }

abbrev pub carrier_moves : World → Carrier → ℕ → Asked → Taken → Log Judgement → World
carrier_moves w carrier round asked taken judged =
    let h = w.history in
    record {
      card = w.card;
      carrier = carrier;
      history = record { card_round = h.card_round; given = h.given; carrier_round = round; asked = asked; taken = taken; judged = judged };
    }

-- what a call that is not refused does: the session that it hands back, and what it gives, sets or takes for the round
unfoldable pub effect : World → Call → World
effect w (commit b lent out) =
    let h = w.history in
    let g = h.given in
    card_moves w (CardCalls.committed_card w.card b lent) h.card_round
    (record { commitments = put g.commitments h.card_round (CardCalls.sent_commitments w.card b lent); middles = g.middles; replies = g.replies })
effect w (answer_alpha b α out) =
    let h = w.history in
    let g = h.given in
    card_moves w (CardCalls.answered_card w.card) h.card_round
    (record { commitments = g.commitments; middles = put g.middles h.card_round (CardCalls.sent_middle w.card b α); replies = g.replies })
effect w (reply challenge out) =
    let h = w.history in
    let g = h.given in
    card_moves w (CardCalls.replied_card w.card) (h.card_round + 1)
    (record { commitments = g.commitments; middles = g.middles; replies = put g.replies h.card_round (CardCalls.sent_reply w.card challenge) })
effect w (take_commitments commitments) =
    let h = w.history in
    carrier_moves w (CarrierCalls.with_commitments w.carrier commitments) h.carrier_round h.asked
    (record { commitments = put h.taken.commitments h.carrier_round commitments; middles = h.taken.middles }) h.judged
effect w (set_alpha α) =
    let h = w.history in
    carrier_moves w (CarrierCalls.with_alpha w.carrier α) h.carrier_round
    (record { alphas = put h.asked.alphas h.carrier_round α; challenges = h.asked.challenges }) h.taken h.judged
effect w (take_middle middle) =
    let h = w.history in
    carrier_moves w (CarrierCalls.with_middle w.carrier middle) h.carrier_round h.asked
    (record { commitments = h.taken.commitments; middles = put h.taken.middles h.carrier_round middle }) h.judged
effect w (set_challenge challenge) =
    let h = w.history in
    carrier_moves w (CarrierCalls.with_challenge w.carrier challenge) h.carrier_round
    (record { alphas = h.asked.alphas; challenges = put h.asked.challenges h.carrier_round challenge }) h.taken h.judged
effect w (take_reply b r) =
    let h = w.history in
    let answer = CarrierCalls.accepts_reply w.carrier b r in
    carrier_moves w (CarrierCalls.judged_carrier w.carrier answer) (h.carrier_round + 1) h.asked h.taken
    (put h.judged h.carrier_round (record { system = b; reply = r; answer = answer }))

-- a refused call changes nothing
unfoldable pub step : World → Call → World
step w c = kept (refusal w c) w (effect w c)

-- both ends after a list of calls
unfoldable pub after : World → List Call → World
after w [] = w
after w (c ∷ cs) = after (step w c) cs
