-- Document 01, "Sessions": the card's session, its calls' refusals, what they make of the session and what they send.
use Rattle.std.specs.Prelude.{ℕ, ◌+◌, cond, List, ltb, eqb, length, take}
use Rattle.slices.specs.Slices.{same, zeros}
use Rattle.refusal.specs.Refusal.{unless, ◌or_else◌}
use Rattle.field.specs.Ops.{ops}
use Rattle.field.specs.Vector.{as_vector, sub_v, all_below}
use Rattle.system.specs.System.{q_of, n_of, m_of, are_sizes, system_refusal, system_against, F}
use Rattle.scheme.specs.declared.Scheme.{Scheme}
use Rattle.scheme.specs.declared.Scheme.TheVariants.{ThreePass, FivePass}
use Rattle.scheme.specs.Scheme.{scheme_of, is_scheme, is_rounds, challenges, has_alpha, drawn_length, commitments_length, lent_length, reply_length}
use Rattle.commitment.specs.declared.Domain.{Domain}
use Rattle.protocol.specs.Protocols as P
use Rattle.protocol.specs.Protocols.{r1_of, t1_of}
use Rattle.round.specs.ThreePass.{reply_three}
use Rattle.round.specs.FivePass.{middle_five, reply_five}
use Rattle.round.specs.declared.pieces.Rhos.{Rhos}
use Rattle.exchange.specs.declared.read.Lent.{Lent}
use Rattle.exchange.specs.Messages.{lent_in, three_commitments, five_commitments, middle_bytes, reply_three_bytes, reply_five_bytes}
use Rattle.exchange.specs.Card.{three_vectors, three_committed, five_committed}
use Rattle.session_state.specs.declared.Verdict.TheVariants.{None}
use Rattle.session_state.specs.State.{state_refusal, next_count}
use Rattle.card_state.specs.declared.session.CardPhase.{CardPhase}
use Rattle.card_state.specs.declared.session.CardPhase.TheVariants.{Commit, AnswerAlpha, Reply, Closed}
use Rattle.card_state.specs.declared.session.Card.{Card}

-- the due call by number, 0 for a closed session
unfoldable pub phase_number : CardPhase → ℕ
phase_number (Closed verdict) = 0
phase_number Commit = 1
phase_number AnswerAlpha = 2
phase_number Reply = 3

-- nothing lent
unfoldable pub no_rhos : Rhos
no_rhos = record { rho0 = zeros 32; rho1 = zeros 32; rho2 = zeros 32 }

unfoldable pub no_lent : Lent
no_lent = record { r0 = zeros 96; t0 = zeros 96; e0 = zeros 96; rhos = no_rhos }

-- what stands before ρ in every string that is hashed in a session
unfoldable pub card_domain : Card → Domain
card_domain card = record { scheme = card.scheme }

-- "After round N the card's session is closed and every number in it is zero."; "a refused opening gives a closed session of zeros, its verdict \"none\"".
-- A scheme is no number: the first one stands there, and no call's answer hangs on it
unfoldable pub closed_card : Card
closed_card =
    record {
      phase = Closed None;
      scheme = ThreePass;
      q = 0;
      n = 0;
      m = 0;
      rounds = 0;
      round = 0;
      s = zeros 96;
      r0 = zeros 96;
      t0 = zeros 96;
      e0 = zeros 96;
      e1 = zeros 96;
      rhos = no_rhos;
    }

-- the same session in another phase and round, with what is lent for it
unfoldable pub card_with : Card → CardPhase → ℕ → Lent → List ℕ → Card
card_with card phase round l e1 =
    record {
      phase = phase;
      scheme = card.scheme;
      q = card.q;
      n = card.n;
      m = card.m;
      rounds = card.rounds;
      round = round;
      s = card.s;
      r0 = l.r0;
      t0 = l.t0;
      e0 = l.e0;
      e1 = e1;
      rhos = l.rhos;
    }

-- ---- open(system, scheme, N, v, s)

-- "the system ..; then arguments left to right, all 1, all 2, all 3, then 4"
unfoldable pub open_form : List ℕ → ℕ → ℕ → List ℕ → List ℕ → ℕ
open_form b scheme rounds v s =
    system_refusal b or_else
    unless (is_scheme scheme) 1 or_else
    unless (is_rounds rounds) 1 or_else
    unless (eqb (length v) (m_of b)) 2 or_else
    unless (eqb (length s) (n_of b)) 2 or_else
    unless (all_below (q_of b) v) 3 or_else
    unless (all_below (q_of b) s) 3

-- "5 F(s) ≠ v when a card is opened"
unfoldable pub open_refusal : List ℕ → ℕ → ℕ → List ℕ → List ℕ → ℕ
open_refusal b scheme rounds v s = open_form b scheme rounds v s or_else unless (same (F b (as_vector s)) (as_vector v)) 5

-- a card in its first round, nothing lent yet
unfoldable pub opened_card : List ℕ → ℕ → ℕ → List ℕ → Card
opened_card b scheme rounds s =
    record {
      phase = Commit;
      scheme = scheme_of scheme;
      q = q_of b;
      n = n_of b;
      m = m_of b;
      rounds = rounds;
      round = 0;
      s = as_vector s;
      r0 = zeros 96;
      t0 = zeros 96;
      e0 = zeros 96;
      e1 = zeros 96;
      rhos = no_rhos;
    }

-- ---- commit(system, lent, out)

-- "11, 10; then the system .., then 7 against a session; then arguments left to right, all 1, all 2, all 3"
unfoldable pub commit_refusal : Card → List ℕ → List ℕ → ℕ → ℕ
commit_refusal card b lent out =
    state_refusal (phase_number card.phase) 1 or_else
    system_against b card.q card.n card.m or_else
    unless (eqb (length lent) (lent_length card.scheme card.n card.m)) 2 or_else
    unless (eqb out (commitments_length card.scheme)) 2 or_else
    unless (all_below card.q (take (drawn_length card.scheme card.n card.m) lent)) 3

-- "then per round commit and reply, in scheme 5 with the reply to α between"
unfoldable pub behind_commit : Scheme → CardPhase
behind_commit scheme = cond (has_alpha scheme) AnswerAlpha Reply

-- e1 of three passes, since the system is not lent again for the reply
unfoldable pub kept_e1 : Scheme → List ℕ → List ℕ → List ℕ → List ℕ
kept_e1 ThreePass b s lent = (three_vectors b s lent).e1
kept_e1 FivePass b s lent = zeros 96

-- what is lent is kept, and e1
unfoldable pub committed_card : Card → List ℕ → List ℕ → Card
committed_card card b lent =
    card_with card (behind_commit card.scheme) card.round (lent_in (n_of b) (m_of b) lent) (kept_e1 card.scheme b card.s lent)

-- the commitments of a round, from the secret and what is lent
unfoldable pub formed_commitments : Scheme → Domain → List ℕ → List ℕ → List ℕ → List ℕ
formed_commitments ThreePass d b s lent = three_commitments (three_committed d b s lent)
formed_commitments FivePass d b s lent = five_commitments (five_committed d b s lent)

-- those that are sent
unfoldable pub sent_commitments : Card → List ℕ → List ℕ → List ℕ
sent_commitments card b lent = formed_commitments card.scheme (card_domain card) b card.s lent

-- ---- reply to α (system, α, out)

unfoldable pub alpha_refusal : Card → List ℕ → ℕ → ℕ → ℕ
alpha_refusal card b α out =
    state_refusal (phase_number card.phase) 2 or_else
    system_against b card.q card.n card.m or_else
    unless (eqb out (card.n + card.m)) 2 or_else
    unless (ltb α card.q) 3

-- what is lent for the round, as the card holds it
unfoldable pub held_lent : Card → Lent
held_lent card = record { r0 = card.r0; t0 = card.t0; e0 = card.e0; rhos = card.rhos }

-- a card that has answered α
unfoldable pub answered_card : Card → Card
answered_card card = card_with card Reply card.round (held_lent card) card.e1

-- "The card sends t1 = αr0 - t0, then e1 = αF(r0) - e0."
unfoldable pub sent_middle : Card → List ℕ → ℕ → List ℕ
sent_middle card b α = middle_bytes (n_of b) (m_of b) (middle_five b α card.r0 card.t0 card.e0)

-- ---- reply(challenge, out)

-- 1 for a q, n or m that no opening gives a session
unfoldable pub reply_refusal : Card → ℕ → ℕ → ℕ
reply_refusal card challenge out =
    state_refusal (phase_number card.phase) 3 or_else
    unless (are_sizes card.q card.n card.m) 1 or_else
    unless (eqb out (reply_length card.scheme card.n card.m)) 2 or_else
    unless (ltb challenge (challenges card.scheme)) 4

-- a card in its next round: "A reply zeroes that round's vectors and ρ."
unfoldable pub next_card : Card → Card
next_card card = card_with card Commit (next_count card.round) no_lent (zeros 96)

-- "After round N the card's session is closed"
unfoldable pub replied_card : Card → Card
replied_card card = cond (ltb (next_count card.round) card.rounds) (next_card card) closed_card

-- the vectors of a three-pass round as the card holds them; the reply opens none with the mask
unfoldable pub held_vectors : Card → P.Vectors (List ℕ) (List ℕ)
held_vectors card =
    let minus = sub_v (ops card.q) card.n in
    record {
      r0 = card.r0;
      r1 = r1_of minus card.s card.r0;
      t0 = card.t0;
      t1 = t1_of minus card.r0 card.t0;
      e0 = card.e0;
      e1 = card.e1;
      mask = zeros 96;
    }

-- the reply of a round
unfoldable pub formed_reply : Scheme → Card → ℕ → List ℕ
formed_reply ThreePass card challenge = reply_three_bytes card.n card.m (reply_three (held_vectors card) card.rhos challenge)
formed_reply FivePass card challenge = reply_five_bytes card.n (reply_five card.q card.n card.s card.r0 card.rhos challenge)

-- the one that is sent
unfoldable pub sent_reply : Card → ℕ → List ℕ
sent_reply card challenge = formed_reply card.scheme card challenge
