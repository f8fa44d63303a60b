-- Honest rounds at their bytes, for every system that is not refused: what the card sends is accepted, and has its lengths and elements. Assumes nothing.
use Prim.Native.Nat.{ℕ, ◌+◌, ◌≤◌}
use mathlib.Core.Path.{◌≡◌, ap, ap₂, ◌∙◌}
use mathlib.Core.Bool.{true}
use mathlib.Core.List.{List, ◌∷◌}
use lib.Dec.{eqb}
use lib.ListN.{length, take}
use Rattle.slices.proofs.Booleans.{either}
use Rattle.field.specs.Vector.{all_below}
use Rattle.field.proofs.Fields.{ring}
use Rattle.system.specs.System.{q_of, n_of, m_of, ops_of, system_refusal, F}
use Rattle.system.proofs.SystemLayout.{accepted}
use Rattle.scheme.specs.declared.Scheme.{Scheme}
use Rattle.scheme.specs.declared.Scheme.TheVariants.{ThreePass, FivePass}
use Rattle.scheme.specs.Scheme.{commitments_length, rhos_length, reply_length}
use Rattle.commitment.specs.declared.Domain.{Domain}
use Rattle.protocol.specs.Protocols.{r1_of, card_five}
use Rattle.protocol.specs.Rounds.{IsX}
use Rattle.protocol.proofs.SystemMap.{vectors}
use Rattle.protocol.proofs.Rounds.{elements_three, elements_five}
use Rattle.round.specs.declared.pieces.Middle.{Middle}
use Rattle.round.specs.declared.pieces.ReplyThree.{ReplyThree}
use Rattle.round.specs.declared.pieces.ReplyFive.{ReplyFive}
use Rattle.round.specs.Openings.{all_open}
use Rattle.round.specs.ThreePass.{openings_three}
use Rattle.round.specs.FivePass.{middle_five, reply_five, openings_five}
use Rattle.round.proofs.Acceptance.{accepted_three, accepted_five}
use Rattle.exchange.specs.Messages.{lent_in, openings, accepts}
use Rattle.exchange.specs.Messages.{three_commitments, five_commitments, reply_three_bytes, middle_bytes, reply_five_bytes}
use Rattle.exchange.specs.Card.{three_vectors, three_committed, three_replied, five_committed}
use Rattle.exchange.proofs.Formed.{size_is, Lends, lent_is, are_three, are_two, replied_is}
use Rattle.exchange.proofs.ReadBack.{length_bytes, AreThree, AreTwo, IsReplyThree, IsReplyFive, IsMiddle}
use Rattle.exchange.proofs.ReadBack.{length_three_commitments, length_five_commitments, three_at, two_at}
use Rattle.exchange.proofs.ReadBack.{reply_three_length, reply_three_back, reply_three_below, reply_five_length, reply_five_back, reply_five_below}
use Rattle.exchange.proofs.ReadBack.{middle_length, middle_back, middle_below}

-- what a card sends in a round of five passes: t1 and e1 for α, and the reply
abbrev pub five_middle : List ℕ → List ℕ → ℕ → Middle
five_middle b lent α = let l = lent_in (n_of b) (m_of b) lent in middle_five b α l.r0 l.t0 l.e0

abbrev pub five_replied : List ℕ → List ℕ → List ℕ → ℕ → ReplyFive
five_replied b s lent challenge = let l = lent_in (n_of b) (m_of b) lent in reply_five (q_of b) (n_of b) s l.r0 l.rhos challenge

module _ (b : List ℕ) (good : system_refusal b ≡ 0) where
  -- ---- what the card sends

  -- t1 and e1 do not depend on the secret
  module _ (lent : List ℕ) (h : Lends b lent) (α : ℕ) where
    pub middle_is : IsMiddle (ops_of b) (n_of b) (m_of b) (five_middle b lent α)
    unfolding card_five middle_five
    middle_is =
        let k = lent_is b good lent h in
        let e = elements_five b good α lent _ _ _ k.r0_is k.t0_is k.e0_is in
        record { t1_is = e.t1_is; e1_is = e.e1_is }

    pub middle_long : length (middle_bytes (n_of b) (m_of b) (five_middle b lent α)) ≡ n_of b + m_of b
    middle_long = let a = accepted b good in middle_length (ops_of b) (n_of b) (m_of b) _ a.n_high a.m_high middle_is

    pub middle_elements : all_below (q_of b) (middle_bytes (n_of b) (m_of b) (five_middle b lent α)) ≡ true
    middle_elements = rw (size_is b good) at (middle_below (ops_of b) (n_of b) (m_of b) _ middle_is)

  module _ (d : Domain) (s lent : List ℕ) where
    three_are : AreThree (three_committed d b s lent)
    unfolding three_committed
    three_are = are_three _ _ _ _ _

    five_are : AreTwo (five_committed d b s lent)
    unfolding five_committed
    five_are = are_two _ _ _ _ _ _ _

    pub three_commitments_long : length (three_commitments (three_committed d b s lent)) ≡ commitments_length ThreePass
    three_commitments_long = length_three_commitments _ three_are

    pub five_commitments_long : length (five_commitments (five_committed d b s lent)) ≡ commitments_length FivePass
    five_commitments_long = length_five_commitments _ five_are

  module _ (s lent : List ℕ) where
    pub three_reply_is : Lends b lent → (challenge : ℕ) → IsReplyThree (ops_of b) (n_of b) (m_of b) (three_replied b s lent challenge)
    unfolding three_replied three_vectors lent_in
    three_reply_is h challenge =
        let k = lent_is b good lent h in
        replied_is b _ (lent_in (n_of b) (m_of b) lent).rhos (elements_three b good s _ _ _ k.r0_is k.t0_is k.e0_is) (length_bytes _ lent) (length_bytes _ lent) (length_bytes _ lent) challenge

    pub five_reply_is : Lends b lent → (challenge : ℕ) → IsReplyFive (ops_of b) (n_of b) (five_replied b s lent challenge)
    unfolding reply_five r1_of lent_in
    five_reply_is h challenge =
        either (IsReplyFive (ops_of b) (n_of b)) (eqb challenge 0) _ _
        (record { x_is = (lent_is b good lent h).r0_is; rho_long = length_bytes _ lent })
        (record { x_is = (vectors (ops_of b) (ring (q_of b)) (n_of b)).sub_is s _; rho_long = length_bytes _ lent })

    -- ---- is accepted

    module _ (d : Domain) (v : List ℕ) (key : F b s ≡ v) (hs : IsX b s) (h : Lends b lent) where
      pub honest_three : d.scheme ≡ ThreePass → (turn : List ℕ) (challenge : ℕ) → challenge ≤ 2 →
          accepts b d v (three_commitments (three_committed d b s lent)) turn challenge (reply_three_bytes (n_of b) (m_of b) (three_replied b s lent challenge)) ≡ true
      unfolding accepts openings three_committed three_replied three_vectors
      honest_three three turn challenge small =
          let a = accepted b good in
          let k = lent_is b good lent h in
          let l = lent_in (n_of b) (m_of b) lent in
          let c = three_commitments (three_committed d b s lent) in
          ap (λ (scheme : Scheme). all_open d c (openings b scheme v turn challenge (reply_three_bytes (n_of b) (m_of b) (three_replied b s lent challenge)))) three ∙
          ap (λ (r : ReplyThree). all_open d c (openings_three b v challenge r))
          (reply_three_back (ops_of b) (n_of b) (m_of b) _ a.n_high a.m_high (three_reply_is h challenge)) ∙
          accepted_three d b v l.rhos good s l.r0 l.t0 l.e0 hs k.r0_is k.t0_is k.e0_is key c (three_at _ (three_are d s lent)) challenge small

      pub honest_five : d.scheme ≡ FivePass → (α challenge : ℕ) → challenge ≤ 1 →
          accepts b d v (five_commitments (five_committed d b s lent)) (α ∷ middle_bytes (n_of b) (m_of b) (five_middle b lent α)) challenge
          (reply_five_bytes (n_of b) (five_replied b s lent challenge)) ≡ true
      unfolding accepts openings five_committed
      honest_five five α challenge small =
          let a = accepted b good in
          let k = lent_is b good lent h in
          let l = lent_in (n_of b) (m_of b) lent in
          let c = five_commitments (five_committed d b s lent) in
          let turn = α ∷ middle_bytes (n_of b) (m_of b) (five_middle b lent α) in
          ap (λ (scheme : Scheme). all_open d c (openings b scheme v turn challenge (reply_five_bytes (n_of b) (five_replied b s lent challenge)))) five ∙
          ap₂ (λ (sent : Middle) (r : ReplyFive). all_open d c (openings_five b α v sent challenge r))
          (middle_back (ops_of b) (n_of b) (m_of b) α (five_middle b lent α) a.n_high a.m_high (middle_is lent h α))
          (reply_five_back (ops_of b) (n_of b) (five_replied b s lent challenge) a.n_high (five_reply_is h challenge)) ∙
          accepted_five d b v l.rhos good α s l.r0 l.t0 l.e0 hs k.t0_is k.e0_is key c (two_at _ (five_are d s lent)) challenge small

    -- ---- has its lengths and elements

    module _ (h : Lends b lent) where
      pub three_reply_long : (challenge : ℕ) → length (reply_three_bytes (n_of b) (m_of b) (three_replied b s lent challenge)) ≡ reply_length ThreePass (n_of b) (m_of b)
      three_reply_long challenge =
          let a = accepted b good in
          reply_three_length (ops_of b) (n_of b) (m_of b) _ a.n_high a.m_high (three_reply_is h challenge)

      pub three_reply_below : (challenge : ℕ) →
          all_below (q_of b) (take (n_of b + n_of b + m_of b) (reply_three_bytes (n_of b) (m_of b) (three_replied b s lent challenge))) ≡ true
      three_reply_below challenge =
          let a = accepted b good in
          rw (size_is b good) at (reply_three_below (ops_of b) (n_of b) (m_of b) _ a.n_high a.m_high (three_reply_is h challenge))

      pub five_reply_long : (challenge : ℕ) → length (reply_five_bytes (n_of b) (five_replied b s lent challenge)) ≡ n_of b + rhos_length FivePass
      five_reply_long challenge = reply_five_length (ops_of b) (n_of b) _ (accepted b good).n_high (five_reply_is h challenge)

      pub five_reply_below : (challenge : ℕ) → all_below (q_of b) (take (n_of b) (reply_five_bytes (n_of b) (five_replied b s lent challenge))) ≡ true
      five_reply_below challenge =
          rw (size_is b good) at (reply_five_below (ops_of b) (n_of b) _ (accepted b good).n_high (five_reply_is h challenge))
