-- The carrier's calls along an honest session: each leaves the two ends linked, and none is refused when it is due. Assumes nothing.
use Prim.Native.Nat.{ℕ, ◌+◌, ◌≤◌, ◌<◌}
use mathlib.Core.Path.{◌≡◌, refl, sym, ap, ◌∙◌}
use mathlib.Core.List.{List}
use mathlib.Core.Option.{some}
use native.Mathlib.Nat.{lt_of_not-le, le_antisymm, lt_irrefl}
use native.Mathlib.Decide.{dec_le}
use native.Mathlib.Omega.{arith}
use lib.Dec.{ltb}
use lib.ListN.{length, take}
use borrow.Author.Tests.{eq-eqb, lt-ltb, ltb-true}
use Rattle.refusal.proofs.Refusals.{first_zero, later_zero, test_holds, equal_holds, both_zero, unless_holds}
use Rattle.field.specs.Vector.{Elements, all_below}
use Rattle.system.specs.System.{q_of, n_of, m_of, system_refusal, system_against}
use Rattle.field.proofs.Elements.{all_below_at, at_all_below}
use Rattle.system.proofs.SystemLayout.{sizes_has}
use Rattle.scheme.specs.Scheme.{challenges, commitments_length, vectors_length, reply_length}
use Rattle.session_state.proofs.States.{state_due, due_state}
use Rattle.carrier_state.specs.declared.session.CarrierPhase.{CarrierPhase}
use Rattle.carrier_state.specs.declared.session.CarrierPhase.TheVariants.{TakeCommitments, SetAlpha, TakeMiddle, SetChallenge, TakeReply}
use Rattle.carrier_state.specs.declared.session.Carrier.{Carrier}
use Rattle.carrier_state.specs.Carrier.{phase_number, carrier_with, opened_carrier, commitments_refusal, alpha_refusal, middle_refusal, challenge_refusal, reply_refusal}
use Rattle.session.specs.Session.{Terms, passes, Asked, Taken, World, carrier_moves}
use Rattle.session.proofs.Logs.{put_stays, put_within, given_before}
use Rattle.session.proofs.CarrierHistory.{carrier_at, CarrierHistory, AllAccepted, at_phase, progress_is, taken_commitments, alpha_set, middle_taken, challenge_set, no_alpha_yet, no_challenge_yet, commitments_history, alpha_history, middle_history, challenge_history}
use Rattle.session.proofs.States.{AskedStays, TakenGiven, Link, past_stays, card_stays, given_same, asked_same}

module _ (o : Terms) where
  -- ---- a call of the carrier leaves the ends linked

  pub moved : (w : World) (carrier : Carrier) (r : ℕ) (a : Asked) (t : Taken) (j : _) → Link o w → CarrierHistory o (carrier_moves w carrier r a t j) →
      AskedStays o w.history.asked a → TakenGiven o w.history.given t → AllAccepted j r → r ≤ w.history.card_round → Link o (carrier_moves w carrier r a t j)
  moved w carrier r a t j l history stays taken all behind =
      record {
        card_state = card_stays o stays l.card_state;
        past = λ k h. past_stays o k (given_same o w.history.given) stays (l.past k h);
        card_history = record { goes = l.card_history.goes; replied = l.card_history.replied; no_replies = l.card_history.no_replies };
        carrier_history = history;
        taken_given = taken;
        all_accepted = all;
        behind = behind;
      }

  pub commitments_linked : (w : World) (c : List ℕ) → Link o w → commitments_refusal w.carrier c ≡ 0 →
      w.history.given.commitments w.history.carrier_round ≡ some c → Link o (taken_commitments o w c)
  commitments_linked w c l none given =
      moved w _ w.history.carrier_round _ _ _ l (commitments_history o w c l.carrier_history none) (asked_same o w.history.asked)
      (record {
        commitments_given = put_within _ _ _ c l.taken_given.commitments_given given;
        middles_given = l.taken_given.middles_given;
      })
      l.all_accepted l.behind

  pub alpha_linked : (w : World) (α : ℕ) → Link o w → alpha_refusal w.carrier α ≡ 0 → Link o (alpha_set o w α)
  unfolding alpha_refusal phase_number
  alpha_linked w α l none =
      let f = at_phase o l.carrier_history.state SetAlpha (λ e. absurd (omega arith)) (state_due _ 2 (first_zero _ _ none)) in
      moved w _ w.history.carrier_round _ _ _ l (alpha_history o w α l.carrier_history none)
      (record { alphas_stay = put_stays _ _ α (no_alpha_yet o _ _ _ _ f.progress); challenges_stay = λ k x e. e }) l.taken_given l.all_accepted l.behind

  pub middle_linked : (w : World) (m : List ℕ) → Link o w → middle_refusal w.carrier m ≡ 0 →
      w.history.given.middles w.history.carrier_round ≡ some m → Link o (middle_taken o w m)
  middle_linked w m l none given =
      moved w _ w.history.carrier_round _ _ _ l (middle_history o w m l.carrier_history none) (asked_same o w.history.asked)
      (record { commitments_given = l.taken_given.commitments_given; middles_given = put_within _ _ _ m l.taken_given.middles_given given })
      l.all_accepted l.behind

  pub challenge_linked : (w : World) (challenge : ℕ) → Link o w → challenge_refusal w.carrier challenge ≡ 0 → Link o (challenge_set o w challenge)
  unfolding challenge_refusal phase_number
  challenge_linked w challenge l none =
      let f = at_phase o l.carrier_history.state SetChallenge (λ e. absurd (omega arith)) (state_due _ 4 (first_zero _ _ none)) in
      moved w _ w.history.carrier_round _ _ _ l (challenge_history o w challenge l.carrier_history none)
      (record { alphas_stay = λ k x e. e; challenges_stay = put_stays _ _ challenge (no_challenge_yet o _ _ _ _ f.progress) })
      l.taken_given l.all_accepted l.behind

  -- a round is over at the card only with its challenge, so the card is in the carrier's round where the challenge is set
  pub challenge_in_round : (w : World) (challenge : ℕ) → Link o w → challenge_refusal w.carrier challenge ≡ 0 → w.history.card_round ≡ w.history.carrier_round
  unfolding challenge_refusal phase_number
  challenge_in_round w challenge l none =
      let f = at_phase o l.carrier_history.state SetChallenge (λ e. absurd (omega arith)) (state_due _ 4 (first_zero _ _ none)) in
      elim (dec_le w.history.card_round w.history.carrier_round) [
        | yes h ↦ le_antisymm h l.behind
        | no h ↦
            let p = l.past w.history.carrier_round (lt_of_not-le h) in
            absurd (lt_irrefl _ (given_before _ _ w.history.carrier_round p.challenge (no_challenge_yet o _ _ _ _ f.progress) p.challenge_given))
      ]

  -- ---- a call that is due is not refused

  -- the session where the call of a phase is due
  is_at : (w : World) → Link o w → (p : CarrierPhase) → (phase_number p ≡ 0 → ⊥) → phase_number w.carrier.phase ≡ phase_number p →
      (c : List ℕ) × (m : List ℕ) × (challenge : ℕ) × (w.carrier ≡ carrier_at o p w.history.carrier_round c m challenge)
  is_at w l p nonzero phase = progress_is o (at_phase o l.carrier_history.state p nonzero phase).progress

  pub commitments_go : (w : World) (c : List ℕ) → Link o w → phase_number w.carrier.phase ≡ 1 → length c ≡ commitments_length (passes o) →
      commitments_refusal w.carrier c ≡ 0
  unfolding commitments_refusal phase_number carrier_at carrier_with opened_carrier
  commitments_go w c l phase long =
      rw (is_at w l TakeCommitments (λ e. absurd (omega arith)) phase).3
      (both_zero _ _ (due_state 1 1 refl (λ e. absurd (omega arith))) (unless_holds _ 2 (eq-eqb (length c) (commitments_length (passes o)) long)))

  pub alpha_goes : (w : World) (α : ℕ) → Link o w → phase_number w.carrier.phase ≡ 2 → α < q_of o.system → alpha_refusal w.carrier α ≡ 0
  unfolding alpha_refusal phase_number carrier_at carrier_with opened_carrier
  alpha_goes w α l phase element =
      rw (is_at w l SetAlpha (λ e. absurd (omega arith)) phase).3
      (both_zero _ _ (due_state 2 2 refl (λ e. absurd (omega arith))) (unless_holds _ 3 (lt-ltb α (q_of o.system) element)))

  pub middle_goes : (w : World) (m : List ℕ) → Link o w → phase_number w.carrier.phase ≡ 3 → length m ≡ n_of o.system + m_of o.system →
      Elements (q_of o.system) m → middle_refusal w.carrier m ≡ 0
  unfolding middle_refusal phase_number carrier_at carrier_with opened_carrier
  middle_goes w m l phase long elements =
      rw (is_at w l TakeMiddle (λ e. absurd (omega arith)) phase).3
      (both_zero _ _ (due_state 3 3 refl (λ e. absurd (omega arith)))
      (both_zero _ _ (unless_holds _ 2 (eq-eqb (length m) (n_of o.system + m_of o.system) long)) (unless_holds _ 3 (at_all_below (q_of o.system) m elements))))

  pub challenge_goes : (w : World) (challenge : ℕ) → Link o w → phase_number w.carrier.phase ≡ 4 → challenge < challenges (passes o) →
      challenge_refusal w.carrier challenge ≡ 0
  unfolding challenge_refusal phase_number carrier_at carrier_with opened_carrier
  challenge_goes w challenge l phase value =
      rw (is_at w l SetChallenge (λ e. absurd (omega arith)) phase).3
      (both_zero _ _ (due_state 4 4 refl (λ e. absurd (omega arith))) (unless_holds _ 4 (lt-ltb challenge (challenges (passes o)) value)))

  pub reply_goes : (w : World) (reply : List ℕ) → system_refusal o.system ≡ 0 → Link o w → phase_number w.carrier.phase ≡ 5 →
      length reply ≡ reply_length (passes o) (n_of o.system) (m_of o.system) →
      Elements (q_of o.system) (take (vectors_length (passes o) (n_of o.system) (m_of o.system)) reply) → reply_refusal w.carrier o.system reply ≡ 0
  unfolding reply_refusal system_against phase_number carrier_at carrier_with opened_carrier
  reply_goes w reply good l phase long elements =
      rw (is_at w l TakeReply (λ e. absurd (omega arith)) phase).3
      (both_zero _ _ (due_state 5 5 refl (λ e. absurd (omega arith)))
      (both_zero _ _ (both_zero _ _ good (unless_holds _ 7 (sizes_has o.system _ _ _ refl refl refl)))
      (both_zero _ _ (unless_holds _ 2 (eq-eqb (length reply) (reply_length (passes o) (n_of o.system) (m_of o.system)) long)) (unless_holds _ 3 (at_all_below _ _ elements)))))

  -- ---- a call that is not refused has right lengths, elements and challenge

  pub commitments_fit : (w : World) (c : List ℕ) → Link o w → commitments_refusal w.carrier c ≡ 0 → length c ≡ commitments_length (passes o)
  unfolding commitments_refusal phase_number carrier_at carrier_with opened_carrier
  commitments_fit w c l none =
      let is = (is_at w l TakeCommitments (λ e. absurd (omega arith)) (state_due _ 1 (first_zero _ _ none))).3 in
      equal_holds (length c) (commitments_length (passes o)) 2 tt (later_zero _ _ (ap (λ (k : Carrier). commitments_refusal k c) (sym is) ∙ none))

  pub alpha_fits : (w : World) (α : ℕ) → Link o w → alpha_refusal w.carrier α ≡ 0 → α < q_of o.system
  unfolding alpha_refusal phase_number carrier_at carrier_with opened_carrier
  alpha_fits w α l none =
      let is = (is_at w l SetAlpha (λ e. absurd (omega arith)) (state_due _ 2 (first_zero _ _ none))).3 in
      ltb-true α (q_of o.system) (test_holds (ltb α (q_of o.system)) 3 tt (later_zero _ _ (ap (λ (k : Carrier). alpha_refusal k α) (sym is) ∙ none)))

  pub middle_fits : (w : World) (m : List ℕ) → Link o w → middle_refusal w.carrier m ≡ 0 →
      (length m ≡ n_of o.system + m_of o.system) × Elements (q_of o.system) m
  unfolding middle_refusal phase_number carrier_at carrier_with opened_carrier
  middle_fits w m l none =
      let is = (is_at w l TakeMiddle (λ e. absurd (omega arith)) (state_due _ 3 (first_zero _ _ none))).3 in
      let rest = later_zero _ _ (ap (λ (k : Carrier). middle_refusal k m) (sym is) ∙ none) in (
        equal_holds (length m) (n_of o.system + m_of o.system) 2 tt (first_zero _ _ rest),
        all_below_at _ _ (test_holds (all_below (q_of o.system) m) 3 tt (later_zero _ _ rest)),
      )

  pub challenge_fits : (w : World) (challenge : ℕ) → Link o w → challenge_refusal w.carrier challenge ≡ 0 → challenge < challenges (passes o)
  unfolding challenge_refusal phase_number carrier_at carrier_with opened_carrier
  challenge_fits w challenge l none =
      let is = (is_at w l SetChallenge (λ e. absurd (omega arith)) (state_due _ 4 (first_zero _ _ none))).3 in
      ltb-true challenge (challenges (passes o))
      (test_holds (ltb challenge (challenges (passes o))) 4 tt (later_zero _ _ (ap (λ (k : Carrier). challenge_refusal k challenge) (sym is) ∙ none)))

  pub reply_fits : (w : World) (b reply : List ℕ) → Link o w → reply_refusal w.carrier b reply ≡ 0 →
      (length reply ≡ reply_length (passes o) (n_of o.system) (m_of o.system)) ×
      Elements (q_of o.system) (take (vectors_length (passes o) (n_of o.system) (m_of o.system)) reply)
  unfolding reply_refusal phase_number carrier_at carrier_with opened_carrier
  reply_fits w b reply l none =
      let is = (is_at w l TakeReply (λ e. absurd (omega arith)) (state_due _ 5 (first_zero _ _ none))).3 in
      let rest = later_zero _ _ (later_zero _ _ (ap (λ (k : Carrier). reply_refusal k b reply) (sym is) ∙ none)) in (
        equal_holds (length reply) (reply_length (passes o) (n_of o.system) (m_of o.system)) 2 tt (first_zero _ _ rest),
        all_below_at _ _ (test_holds (all_below (q_of o.system) (take (vectors_length (passes o) (n_of o.system) (m_of o.system)) reply)) 3 tt (later_zero _ _ rest)),
      )
