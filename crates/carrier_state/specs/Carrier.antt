-- Document 01, "Sessions": the carrier's session, its calls' refusals and what they make of the session.
use Rattle.std.specs.Prelude.{ℕ, ◌+◌, ◌*◌, Bool, cond, List, [], ◌∷◌, ltb, eqb, length, take}
use Rattle.slices.specs.Slices.{◌!◌, tabulate, zeros}
use Rattle.refusal.specs.Refusal.{unless, ◌or_else◌}
use Rattle.field.specs.Vector.{as_vector, all_below}
use Rattle.system.specs.System.{q_of, n_of, m_of, system_refusal, system_against}
use Rattle.scheme.specs.declared.Scheme.{Scheme}
use Rattle.scheme.specs.declared.Scheme.TheVariants.{ThreePass}
use Rattle.scheme.specs.Scheme.{scheme_of, is_scheme, is_rounds, challenges, has_alpha, commitments_length, vectors_length, reply_length}
use Rattle.commitment.specs.declared.Domain.{Domain}
use Rattle.exchange.specs.Messages.{accepts}
use Rattle.session_state.specs.declared.Verdict.{Verdict}
use Rattle.session_state.specs.declared.Verdict.TheVariants.{Accepted, Rejected}
use Rattle.session_state.specs.State.{state_refusal, next_count}
use Rattle.carrier_state.specs.declared.session.CarrierPhase.{CarrierPhase}
use Rattle.carrier_state.specs.declared.session.CarrierPhase.TheVariants.{TakeCommitments, SetAlpha, TakeMiddle, SetChallenge, TakeReply, Closed}
use Rattle.carrier_state.specs.declared.session.Carrier.{Carrier}

-- the due call by number, 0 for a closed session
unfoldable pub phase_number : CarrierPhase → ℕ
phase_number (Closed verdict) = 0
phase_number TakeCommitments = 1
phase_number SetAlpha = 2
phase_number TakeMiddle = 3
phase_number SetChallenge = 4
phase_number TakeReply = 5

-- what stands before ρ in every string that is hashed in a session
unfoldable pub carrier_domain : Carrier → Domain
carrier_domain c = record { scheme = c.scheme }

-- the most bytes that a round's commitments have: three commitments of 32
abbrev pub most_commitments : ℕ
most_commitments = 32 * 3

-- the most that α, t1 and e1 have: α, and 96 elements each
abbrev pub most_turn : ℕ
most_turn = 1 + 96 + 96

-- a round's commitments by value, zero beyond their length
unfoldable pub held_commitments : List ℕ → List ℕ
held_commitments l = tabulate most_commitments (λ i. l ! i)

-- α, t1 and e1 by value, zero beyond their length
unfoldable pub held_turn : ℕ → List ℕ → List ℕ
held_turn α l = tabulate most_turn (λ i. (α ∷ l) ! i)

-- none of them
unfoldable pub no_turn : List ℕ
no_turn = zeros most_turn

-- "The closed session keeps the verdict and the count of accepted rounds. Its other numbers are zero."
-- A scheme is no number: the first one stands there, and no call's answer hangs on it
unfoldable pub closed_carrier : Verdict → ℕ → Carrier
closed_carrier verdict accepted =
    record {
      phase = Closed verdict;
      scheme = ThreePass;
      q = 0;
      n = 0;
      m = 0;
      rounds = 0;
      accepted = accepted;
      v = zeros 96;
      commitments = held_commitments [];
      turn = no_turn;
      challenge = 0;
    }

-- the same session in another phase, with the messages of the round so far
unfoldable pub carrier_with : Carrier → CarrierPhase → ℕ → List ℕ → List ℕ → ℕ → Carrier
carrier_with c phase accepted commitments turn challenge =
    record {
      phase = phase;
      scheme = c.scheme;
      q = c.q;
      n = c.n;
      m = c.m;
      rounds = c.rounds;
      accepted = accepted;
      v = c.v;
      commitments = commitments;
      turn = turn;
      challenge = challenge;
    }

-- ---- open(system, scheme, N, v)

unfoldable pub open_refusal : List ℕ → ℕ → ℕ → List ℕ → ℕ
open_refusal b scheme rounds v =
    system_refusal b or_else
    unless (is_scheme scheme) 1 or_else
    unless (is_rounds rounds) 1 or_else
    unless (eqb (length v) (m_of b)) 2 or_else
    unless (all_below (q_of b) v) 3

unfoldable pub opened_carrier : List ℕ → ℕ → ℕ → List ℕ → Carrier
opened_carrier b scheme rounds v =
    record {
      phase = TakeCommitments;
      scheme = scheme_of scheme;
      q = q_of b;
      n = n_of b;
      m = m_of b;
      rounds = rounds;
      accepted = 0;
      v = as_vector v;
      commitments = held_commitments [];
      turn = no_turn;
      challenge = 0;
    }

-- ---- take commitments

unfoldable pub commitments_refusal : Carrier → List ℕ → ℕ
commitments_refusal c commitments =
    state_refusal (phase_number c.phase) 1 or_else unless (eqb (length commitments) (commitments_length c.scheme)) 2

-- "set α (scheme 5), take t1 and e1 (scheme 5), set challenge"
unfoldable pub behind_commitments : Scheme → CarrierPhase
behind_commitments scheme = cond (has_alpha scheme) SetAlpha SetChallenge

unfoldable pub with_commitments : Carrier → List ℕ → Carrier
with_commitments c commitments = carrier_with c (behind_commitments c.scheme) c.accepted (held_commitments commitments) no_turn 0

-- ---- set α (scheme 5)

unfoldable pub alpha_refusal : Carrier → ℕ → ℕ
alpha_refusal c α = state_refusal (phase_number c.phase) 2 or_else unless (ltb α c.q) 3

unfoldable pub with_alpha : Carrier → ℕ → Carrier
with_alpha c α = carrier_with c TakeMiddle c.accepted c.commitments (held_turn α []) 0

-- ---- take t1 and e1 (scheme 5), one behind the other

unfoldable pub middle_refusal : Carrier → List ℕ → ℕ
middle_refusal c middle =
    state_refusal (phase_number c.phase) 3 or_else unless (eqb (length middle) (c.n + c.m)) 2 or_else unless (all_below c.q middle) 3

unfoldable pub with_middle : Carrier → List ℕ → Carrier
with_middle c middle = carrier_with c SetChallenge c.accepted c.commitments (held_turn (c.turn ! 0) middle) 0

-- ---- set challenge

unfoldable pub challenge_refusal : Carrier → ℕ → ℕ
challenge_refusal c challenge = state_refusal (phase_number c.phase) 4 or_else unless (ltb challenge (challenges c.scheme)) 4

unfoldable pub with_challenge : Carrier → ℕ → Carrier
with_challenge c challenge = carrier_with c TakeReply c.accepted c.commitments c.turn challenge

-- ---- take reply(system, reply)

unfoldable pub reply_refusal : Carrier → List ℕ → List ℕ → ℕ
reply_refusal c b reply =
    state_refusal (phase_number c.phase) 5 or_else
    system_against b c.q c.n c.m or_else
    unless (eqb (length reply) (reply_length c.scheme c.n c.m)) 2 or_else
    unless (all_below c.q (take (vectors_length c.scheme c.n c.m) reply)) 3

-- "Taking a reply answers accept or reject."
unfoldable pub accepts_reply : Carrier → List ℕ → List ℕ → Bool
accepts_reply c b reply = accepts b (carrier_domain c) c.v c.commitments c.turn c.challenge reply

-- "A rejected round closes the session as rejected; the N-th accepted round closes it as accepted."
unfoldable pub judged_carrier : Carrier → Bool → Carrier
judged_carrier c accepted =
    cond accepted
    (cond (ltb (next_count c.accepted) c.rounds) (carrier_with c TakeCommitments (next_count c.accepted) (held_commitments []) no_turn 0)
    (closed_carrier Accepted (next_count c.accepted)))
    (closed_carrier Rejected c.accepted)
