-- Document 01, "Sessions": the honest session as a list of calls of both ends, and what is claimed of it.
use Rattle.std.specs.Prelude.{ℕ, ◌+◌, ◌<◌, ◌≡◌, true, List, [], ◌∷◌, length, take}
use Rattle.std.proofs.Math.Option.{some}
use Rattle.field.specs.Vector.{Elements, as_vector}
use Rattle.system.specs.System.{q_of, n_of, m_of}
use Rattle.scheme.specs.Scheme.{challenges, drawn_length, commitments_length, lent_length, vectors_length, reply_length}
use Rattle.exchange.specs.Messages.{accepts}
use Rattle.session_state.specs.declared.Verdict.TheVariants.{Accepted}
use Rattle.card_state.specs.Card as CardCalls
use Rattle.carrier_state.specs.Carrier as CarrierCalls
use Rattle.session.specs.Session.{Terms, passes, domain_of, History, World, refusal, step}
use Rattle.session.specs.Session.{Call, commit, answer_alpha, reply, take_commitments, set_alpha, take_middle, set_challenge, take_reply}
use Rattle.session.specs.Histories.{Turn, IsDue}

-- ---- the honest session

-- "has that system where one is lent, and each message in it that comes from the other end .. is, unaltered, the one already given there for the same round"
unfoldable pub Unaltered : Terms → History → Call → Type 0
Unaltered o h (commit b lent out) = b ≡ o.system
Unaltered o h (answer_alpha b α out) = (b ≡ o.system) × (h.asked.alphas h.card_round ≡ some α)
Unaltered o h (reply challenge out) = h.asked.challenges h.card_round ≡ some challenge
Unaltered o h (take_commitments commitments) = h.given.commitments h.carrier_round ≡ some commitments
Unaltered o h (set_alpha α) = Unit
Unaltered o h (take_middle middle) = h.given.middles h.carrier_round ≡ some middle
Unaltered o h (set_challenge challenge) = Unit
Unaltered o h (take_reply b r) = (b ≡ o.system) × (h.given.replies h.carrier_round ≡ some r)

-- "The random elements, α and the challenges are any.": the calls that draw them
pub data Drawn (o : Terms) : Call → Type 0 where
  any_lent : (lent : List ℕ) (out : ℕ) → Drawn o (commit o.system lent out)
  any_alpha : (α : ℕ) → Drawn o (set_alpha α)
  any_challenge : (challenge : ℕ) → Drawn o (set_challenge challenge)

-- "A refused call may stand anywhere and have any arguments."
unfoldable pub Honest : Terms → World → List Call → Type 0
Honest o w [] = Unit
Honest o w (c ∷ cs) = (refusal w c ≡ 0 → Unaltered o w.history c) × Honest o (step w c) cs

-- ---- what is claimed

-- "with that system, right lengths, elements and challenge"
unfoldable pub Fitting : Terms → Call → Type 0
Fitting o (commit b lent out) =
    let n = n_of o.system in
    let m = m_of o.system in
    (b ≡ o.system) × (length lent ≡ lent_length (passes o) n m) × (out ≡ commitments_length (passes o)) ×
    Elements (q_of o.system) (take (drawn_length (passes o) n m) lent)
Fitting o (answer_alpha b α out) = (b ≡ o.system) × (out ≡ n_of o.system + m_of o.system) × (α < q_of o.system)
Fitting o (reply challenge out) = (out ≡ reply_length (passes o) (n_of o.system) (m_of o.system)) × (challenge < challenges (passes o))
Fitting o (take_commitments commitments) = length commitments ≡ commitments_length (passes o)
Fitting o (set_alpha α) = α < q_of o.system
Fitting o (take_middle middle) = (length middle ≡ n_of o.system + m_of o.system) × Elements (q_of o.system) middle
Fitting o (set_challenge challenge) = challenge < challenges (passes o)
Fitting o (take_reply b r) =
    let n = n_of o.system in
    let m = m_of o.system in
    (b ≡ o.system) × (length r ≡ reply_length (passes o) n m) × Elements (q_of o.system) (take (vectors_length (passes o) n m) r)

-- "its round being accepted by the scheme's check": the messages were given for that round, and the check accepts them
pub record RoundAccepted (o : Terms) (h : History) (reply : List ℕ) : Type 0 where
  pub commitments : List ℕ
  pub turn : List ℕ
  pub challenge : ℕ
  pub commitments_given : h.given.commitments h.carrier_round ≡ some commitments
  pub turn_given : Turn (passes o) h.asked.alphas h.given.middles h.carrier_round turn
  pub challenge_given : h.asked.challenges h.carrier_round ≡ some challenge
  pub reply_given : h.given.replies h.carrier_round ≡ some reply
  pub check : accepts o.system (domain_of o) (as_vector o.key) commitments turn challenge reply ≡ true

-- "each taking of a reply that isn't refused answers accept, its round being accepted by the scheme's check"
unfoldable pub Accepts : Terms → World → Call → Type 0
Accepts o w (take_reply b r) =
    refusal w (take_reply b r) ≡ 0 → (CarrierCalls.accepts_reply w.carrier b r ≡ true) × RoundAccepted o w.history r
Accepts o w (commit b lent out) = Unit
Accepts o w (answer_alpha b α out) = Unit
Accepts o w (reply challenge out) = Unit
Accepts o w (take_commitments commitments) = Unit
Accepts o w (set_alpha α) = Unit
Accepts o w (take_middle middle) = Unit
Accepts o w (set_challenge challenge) = Unit

-- "once round N's reply has been taken by such a call, the carrier's session is closed as accepted with the count N, and the card's is closed"
unfoldable pub Ended : Terms → World → Type 0
Ended o w = w.history.carrier_round ≡ o.rounds → (w.carrier ≡ CarrierCalls.closed_carrier Accepted o.rounds) × (w.card ≡ CardCalls.closed_card)

-- "a call made when due with that system, right lengths, elements and challenge isn't refused"
abbrev pub DueGoes : Terms → World → Call → Type 0
DueGoes o w c = IsDue o w.history c → Fitting o c → refusal w c ≡ 0

unfoldable pub Holds : Terms → World → List Call → Type 0
Holds o w [] = Ended o w
Holds o w (c ∷ cs) = Ended o w × DueGoes o w c × Accepts o w c × Holds o (step w c) cs
