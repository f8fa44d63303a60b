-- "A reply to Ch ≠ Ch* is accepted": what the simulator writes is accepted, at the bytes, and has its lengths. Assumes nothing.
use Prim.Native.Nat.{ℕ, ◌+◌}
use mathlib.Core.Path.{◌≡◌}
use mathlib.Core.Bool.{true}
use mathlib.Core.List.{List}
use native.Mathlib.Omega.{arith}
use lib.ListN.{length, drop}
use Rattle.field.specs.Vector.{as_vector, slot_v}
use Rattle.system.specs.System.{n_of, m_of, ops_of}
use Rattle.system.proofs.SystemLayout.{accepted}
use Rattle.protocol.specs.Rounds.{IsX}
use Rattle.protocol.proofs.Rounds.{elements_simulated}
use Rattle.scheme.specs.declared.Scheme.TheVariants.{ThreePass}
use Rattle.scheme.specs.Scheme.{drawn_length, commitments_length, reply_length}
use Rattle.round.specs.ThreePass.{reply_three}
use Rattle.round.proofs.Acceptance.{accepted_simulated}
use Rattle.exchange.specs.Messages.{lent_in, openings, accepts}
use Rattle.exchange.proofs.ReadBack.{IsReplyThree, length_bytes, length_three_commitments, three_at, reply_three_length, reply_three_back}
use Rattle.exchange.proofs.Formed.{LentIs, as_vector_is, slot_is, lent_is, lends_behind, are_three, replied_is}
use Rattle.simulator.specs.Simulator.{simulate_refusal, lent_behind, vectors_from, lent_vectors, simulator_domain, simulated_commitments, simulated_reply}
use Rattle.simulator.proofs.NotRefused.{Taken, taken}

-- the commitments have their length whatever is lent
pub simulated_commitments_long : (b v : List ℕ) (unanswered : ℕ) (lent : List ℕ) → length (simulated_commitments b v unanswered lent) ≡ commitments_length ThreePass
unfolding simulated_commitments
simulated_commitments_long b v unanswered lent = length_three_commitments _ (are_three _ _ _ _ _)

module _ (b v : List ℕ) (unanswered challenge : ℕ) (lent : List ℕ) (commitments reply : ℕ) (none : simulate_refusal b v unanswered challenge lent commitments reply ≡ 0) where
  k : Taken b v unanswered challenge lent commitments reply
  k = taken b v unanswered challenge lent commitments reply none

  -- ---- what is lent: s', then as to a card

  s_is : IsX b (slot_v (n_of b) 0 lent)
  unfolding drawn_length
  s_is = slot_is b k.good (n_of b) 0 (n_of b + drawn_length ThreePass (n_of b) (m_of b)) lent (omega arith) k.lent_elements

  behind_is : LentIs b (drop (n_of b) lent)
  unfolding drawn_length
  behind_is = lent_is b k.good _ (lends_behind b k.good (n_of b) (n_of b + drawn_length ThreePass (n_of b) (m_of b)) lent (omega arith) k.lent_elements)

  -- ---- what is written

  reply_is : IsReplyThree (ops_of b) (n_of b) (m_of b) (reply_three (lent_vectors b unanswered v lent) (lent_behind (n_of b) (m_of b) lent).rhos challenge)
  unfolding lent_vectors vectors_from lent_behind lent_in
  reply_is =
      replied_is b _ (lent_behind (n_of b) (m_of b) lent).rhos
      (elements_simulated b k.good unanswered (as_vector v) (slot_v (n_of b) 0 lent) _ _ _ behind_is.r0_is behind_is.t0_is behind_is.e0_is)
      (length_bytes _ (drop (n_of b) lent)) (length_bytes _ (drop (n_of b) lent)) (length_bytes _ (drop (n_of b) lent)) challenge

  pub simulated_reply_long : length (simulated_reply b v unanswered challenge lent) ≡ reply_length ThreePass (n_of b) (m_of b)
  unfolding simulated_reply
  simulated_reply_long = let a = accepted b k.good in reply_three_length (ops_of b) (n_of b) (m_of b) _ a.n_high a.m_high reply_is

  -- "A reply to Ch ≠ Ch* is accepted": there is no turn in three passes, so it is any list
  pub simulated_accepted : (turn : List ℕ) →
      accepts b simulator_domain (as_vector v) (simulated_commitments b v unanswered lent) turn challenge (simulated_reply b v unanswered challenge lent) ≡ true
  unfolding accepts openings simulator_domain simulated_commitments simulated_reply lent_vectors vectors_from lent_behind
  simulated_accepted turn =
      let a = accepted b k.good in
      rw (reply_three_back (ops_of b) (n_of b) (m_of b) _ a.n_high a.m_high reply_is)
      (accepted_simulated simulator_domain b (as_vector v) (lent_behind (n_of b) (m_of b) lent).rhos k.good unanswered k.unanswered_value _ _ _ _
      (as_vector_is b k.good (m_of b) v k.key_length k.key_elements) s_is behind_is.r0_is behind_is.t0_is behind_is.e0_is
      _ (three_at _ (are_three _ _ _ _ _)) challenge k.challenge_value k.other)
