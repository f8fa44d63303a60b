-- What is claimed of every list of calls, honest or not, from an opening that is not refused: by what a reply is judged, what the count counts, when a session
-- is closed, and which call is due. All of it is said by what has happened (`History`) and never by the sessions.
use Rattle.std.specs.Prelude.{ℕ, zero, suc, ◌+◌, ◌<◌, ◌≡◌, Bool, false, cond, List, [], ◌∷◌, ◌⊎◌, ◌↔◌}
use Rattle.std.proofs.Math.Option.{Option, some, none}
use Rattle.field.specs.Vector.{as_vector}
use Rattle.scheme.specs.declared.Scheme.{Scheme}
use Rattle.scheme.specs.declared.Scheme.TheVariants.{ThreePass, FivePass}
use Rattle.exchange.specs.Messages.{accepts}
use Rattle.session_state.specs.declared.Verdict.TheVariants.{Accepted, Rejected}
use Rattle.card_state.specs.declared.session.CardPhase.{CardPhase}
use Rattle.card_state.specs.declared.session.CardPhase.TheVariants.{Commit, AnswerAlpha, Reply}
use Rattle.card_state.specs.declared.session.CardPhase.TheVariants as CardPhases
use Rattle.card_state.specs.Card as CardCalls
use Rattle.carrier_state.specs.declared.session.CarrierPhase.{CarrierPhase}
use Rattle.carrier_state.specs.declared.session.CarrierPhase.TheVariants.{TakeCommitments, SetAlpha, TakeMiddle, SetChallenge, TakeReply}
use Rattle.carrier_state.specs.declared.session.CarrierPhase.TheVariants as CarrierPhases
use Rattle.carrier_state.specs.Carrier as CarrierCalls
use Rattle.session.specs.Session.{Terms, passes, domain_of}
use Rattle.session.specs.Session.{Call, commit, answer_alpha, reply, take_commitments, set_alpha, take_middle, set_challenge, take_reply, Log}
use Rattle.session.specs.Session.{Judgement, History, World, refusal}

-- ---- the check of what was taken

-- what stands between commitments and challenge: nothing, or α, t1 and e1
unfoldable pub Turn : Scheme → Log ℕ → Log (List ℕ) → ℕ → List ℕ → Type 0
Turn ThreePass alphas middles r turn = turn ≡ []
Turn FivePass alphas middles r turn = (α : ℕ) × (l : List ℕ) × (alphas r ≡ some α) × (middles r ≡ some l) × (turn ≡ α ∷ l)

-- "Taking a reply answers accept or reject.": the answer is the scheme's check, with the terms' scheme and key, of the very messages that the carrier took
-- and set for the round
pub record JudgedByCheck (o : Terms) (h : History) (r : ℕ) : Type 0 where
  pub commitments : List ℕ
  pub turn : List ℕ
  pub challenge : ℕ
  pub system : List ℕ
  pub reply : List ℕ
  pub answer : Bool
  pub commitments_taken : h.taken.commitments r ≡ some commitments
  pub turn_taken : Turn (passes o) h.asked.alphas h.taken.middles r turn
  pub challenge_set_is : h.asked.challenges r ≡ some challenge
  pub reply_judged : h.judged r ≡ some (record { system = system; reply = reply; answer = answer })
  pub by_check : answer ≡ accepts system (domain_of o) (as_vector o.key) commitments turn challenge reply

-- ---- the count

unfoldable pub accept_of : Option Judgement → ℕ
accept_of none = 0
accept_of (some j) = cond j.answer 1 0

-- how many of the first n replies were answered with accept
unfoldable pub accept_count : Log Judgement → ℕ → ℕ
accept_count judged zero = 0
accept_count judged (suc k) = accept_count judged k + accept_of (judged k)

-- ---- when a session is over

-- "After round N the card's session is closed": N replies were given
abbrev pub CardOver : Terms → History → Type 0
CardOver o h = h.card_round ≡ o.rounds

-- "A rejected round closes the session as rejected"
abbrev pub RejectedOne : History → Type 0
RejectedOne h = (r : ℕ) × (j : Judgement) × (h.judged r ≡ some j) × (j.answer ≡ false)

-- "the N-th accepted round closes it as accepted"
abbrev pub AcceptedAll : Terms → History → Type 0
AcceptedAll o h = accept_count h.judged h.carrier_round ≡ o.rounds

abbrev pub CarrierOver : Terms → History → Type 0
CarrierOver o h = RejectedOne h ⊎ AcceptedAll o h

-- ---- which call is due

-- there is a message in that place of a log, given, set or taken
abbrev pub IsLogged : {A : Type 0} → Option A → Type 0
IsLogged {A = A} message = (x : A) × (message ≡ some x)

-- the first in a round's order that has not been made
pub data Next {A : Type 0} (Made : A → Type 0) : List A → A → Type 0 where
  here : (a : A) (rest : List A) → (Made a → ⊥) → Next Made (a ∷ rest) a
  later : (a b : A) (rest : List A) → Made a → Next Made rest b → Next Made (a ∷ rest) b

-- "then per round commit and reply, in scheme 5 with the reply to α between"
unfoldable pub card_order : Scheme → List CardPhase
card_order ThreePass = Commit ∷ Reply ∷ []
card_order FivePass = Commit ∷ AnswerAlpha ∷ Reply ∷ []

-- made: what it gives was given in this round
unfoldable pub CardMade : History → CardPhase → Type 0
CardMade h Commit = IsLogged (h.given.commitments h.card_round)
CardMade h AnswerAlpha = IsLogged (h.given.middles h.card_round)
CardMade h Reply = IsLogged (h.given.replies h.card_round)
CardMade h (CardPhases.Closed verdict) = ⊥

-- "then per round take commitments, set α (scheme 5), take t1 and e1 (scheme 5), set challenge, take reply"
unfoldable pub carrier_order : Scheme → List CarrierPhase
carrier_order ThreePass = TakeCommitments ∷ SetChallenge ∷ TakeReply ∷ []
carrier_order FivePass = TakeCommitments ∷ SetAlpha ∷ TakeMiddle ∷ SetChallenge ∷ TakeReply ∷ []

-- made: what it takes or sets was taken or set in this round
unfoldable pub CarrierMade : History → CarrierPhase → Type 0
CarrierMade h TakeCommitments = IsLogged (h.taken.commitments h.carrier_round)
CarrierMade h SetAlpha = IsLogged (h.asked.alphas h.carrier_round)
CarrierMade h TakeMiddle = IsLogged (h.taken.middles h.carrier_round)
CarrierMade h SetChallenge = IsLogged (h.asked.challenges h.carrier_round)
CarrierMade h TakeReply = IsLogged (h.judged h.carrier_round)
CarrierMade h (CarrierPhases.Closed verdict) = ⊥

-- the end on which a call is made, and the phase that waits for it there
pub data Place : Type 0 where
  on_card : CardPhase → Place
  on_carrier : CarrierPhase → Place

unfoldable pub place_of : Call → Place
place_of (commit b lent out) = on_card Commit
place_of (answer_alpha b α out) = on_card AnswerAlpha
place_of (reply challenge out) = on_card Reply
place_of (take_commitments commitments) = on_carrier TakeCommitments
place_of (set_alpha α) = on_carrier SetAlpha
place_of (take_middle middle) = on_carrier TakeMiddle
place_of (set_challenge challenge) = on_carrier SetChallenge
place_of (take_reply b r) = on_carrier TakeReply

unfoldable pub OnCard : Place → Type 0
OnCard (on_card phase) = Unit
OnCard (on_carrier phase) = ⊥

-- the session of that end is over
unfoldable pub OverAt : Terms → History → Place → Type 0
OverAt o h (on_card phase) = CardOver o h
OverAt o h (on_carrier phase) = CarrierOver o h

-- the call of that phase is next in the round
unfoldable pub NextAt : Terms → History → Place → Type 0
NextAt o h (on_card phase) = Next (CardMade h) (card_order (passes o)) phase
NextAt o h (on_carrier phase) = Next (CarrierMade h) (carrier_order (passes o)) phase

-- a call is due where its end's session is not over and it is next in the round
abbrev pub DueAt : Terms → History → Place → Type 0
DueAt o h place = (OverAt o h place → ⊥) × NextAt o h place

abbrev pub IsOver : Terms → History → Call → Type 0
IsOver o h c = OverAt o h (place_of c)

abbrev pub IsDue : Terms → History → Call → Type 0
IsDue o h c = DueAt o h (place_of c)

-- ---- what is claimed

-- of a call: "10 a call that isn't the one due. 11 a closed session."
pub record StateRefusals (o : Terms) (w : World) (c : Call) : Type 0 where
  pub eleven_exactly : (refusal w c ≡ 11) ↔ IsOver o w.history c
  pub ten_exactly : (refusal w c ≡ 10) ↔ ((IsOver o w.history c → ⊥) × (IsDue o w.history c → ⊥))

-- of the carrier, whose opening was not refused
pub record CarrierClaim (o : Terms) (w : World) : Type 0 where
  -- each round that is over was judged by the scheme's check of what was taken and set for it, and no other was judged
  pub judged : (r : ℕ) → r < w.history.carrier_round → JudgedByCheck o w.history r
  pub unjudged : (r : ℕ) → IsLogged (w.history.judged r) → r < w.history.carrier_round
  -- "it equals the rounds accepted by definition"
  pub count : w.carrier.accepted ≡ accept_count w.history.judged w.history.carrier_round
  pub rejected_exactly : (w.carrier.phase ≡ CarrierPhases.Closed Rejected) ↔ RejectedOne w.history
  pub accepted_exactly : (w.carrier.phase ≡ CarrierPhases.Closed Accepted) ↔ AcceptedAll o w.history
  -- "The closed session keeps the verdict and the count of accepted rounds. Its other numbers are zero."
  pub rejected_keeps :
      RejectedOne w.history → w.carrier ≡ CarrierCalls.closed_carrier Rejected (accept_count w.history.judged w.history.carrier_round)
  pub accepted_keeps : AcceptedAll o w.history → w.carrier ≡ CarrierCalls.closed_carrier Accepted o.rounds
  -- "The next call due is held as one of a few named phases."
  pub phase_is :
      (phase : CarrierPhase) → (CarrierCalls.phase_number phase ≡ 0 → ⊥) → (w.carrier.phase ≡ phase) ↔ DueAt o w.history (on_carrier phase)
  pub state_refusals : (c : Call) → (OnCard (place_of c) → ⊥) → StateRefusals o w c

-- of the card, whose opening was not refused
pub record CardClaim (o : Terms) (w : World) : Type 0 where
  pub replies_given : (r : ℕ) → IsLogged (w.history.given.replies r) ↔ (r < w.history.card_round)
  -- "After round N the card's session is closed and every number in it is zero.", and no sooner
  pub closed_exactly : (w.card ≡ CardCalls.closed_card) ↔ CardOver o w.history
  pub phase_is : (phase : CardPhase) → (CardCalls.phase_number phase ≡ 0 → ⊥) → (w.card.phase ≡ phase) ↔ DueAt o w.history (on_card phase)
  pub state_refusals : (c : Call) → OnCard (place_of c) → StateRefusals o w c
