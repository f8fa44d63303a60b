-- The card's calls along an honest session: each leaves the two ends linked, and none is refused when it is due. Assumes nothing.
use Prim.Native.Nat.{ℕ, zero, suc, ◌+◌, ◌≤◌, ◌<◌}
use mathlib.Core.Path.{◌≡◌, refl, sym, ap, subst, ◌∙◌}
use mathlib.Core.Bool.{true}
use mathlib.Core.List.{List}
use mathlib.Core.Logic.{⊎_elim}
use mathlib.Core.Option.{some}
use native.Mathlib.Nat.{eq-or-lt_of_le, le_refl, lt_of_not-le}
use native.Mathlib.Decide.{dec_le}
use native.Mathlib.Omega.{arith}
use lib.ListN.{length, take}
use Rattle.field.specs.Vector.{Elements, all_below}
use Rattle.system.specs.System.{q_of, n_of, m_of, system_refusal}
use Rattle.field.proofs.Elements.{all_below_at, at_all_below}
use Rattle.system.proofs.SystemLayout.{sizes_has, sizes_true, accepted}
use Rattle.scheme.specs.declared.Scheme.{Scheme}
use Rattle.scheme.specs.declared.Scheme.TheVariants.{ThreePass, FivePass}
use Rattle.scheme.specs.Scheme.{challenges, drawn_length, commitments_length, lent_length, reply_length}
use Rattle.protocol.specs.Protocols.{card_three, r1_of, t1_of}
use Rattle.protocol.specs.Rounds.{map_of}
use Rattle.round.specs.ThreePass.{reply_three}
use Rattle.exchange.specs.Messages.{lent_in}
use Rattle.exchange.specs.Card.{three_vectors, three_replied}
use Rattle.exchange.proofs.Formed.{Lends}
use Rattle.card_state.specs.declared.session.CardPhase.{CardPhase}
use Rattle.card_state.specs.declared.session.CardPhase.TheVariants.{AnswerAlpha, Reply}
use Rattle.card_state.specs.declared.session.Card.{Card}
use Rattle.card_state.specs.Card.{phase_number, card_domain, opened_card, closed_card, card_with, held_vectors, kept_e1, committed_card, sent_commitments, answered_card, sent_middle, replied_card, formed_reply, sent_reply, commit_refusal, alpha_refusal, reply_refusal}
use Rattle.card_state.proofs.Taken.{commit_taken, commit_due, alpha_taken, alpha_due, reply_taken_lem, reply_due}
use Rattle.session.specs.Session.{Terms, passes, Given, Asked, World, card_moves}
use Rattle.session.proofs.Logs.{Clear, put_there, put_stays, put_clear, clear_next, stays_on}
use Rattle.session.proofs.Schemes.{by_scheme, drawn_is}
use Rattle.session.proofs.CarrierHistory.{card_moved}
use Rattle.session.proofs.CardHistory.{three_behind, five_behind, fresh_card, held_card, committed_is, answered_is, replied_next, replied_last, with_commitments, with_middles, with_replies, CardHistory, commit_history, answer_history, reply_history}
use Rattle.session.proofs.States as St
use Rattle.session.proofs.States.{GivenStays, Link, CardState, Past, past_stays, asked_same}

-- a card to which this is lent
abbrev lending_card : Scheme → CardPhase → ℕ → ℕ → List ℕ → List ℕ → List ℕ → Card
lending_card scheme phase rounds round b s lent =
    let l = lent_in (n_of b) (m_of b) lent in
    record {
      phase = phase;
      scheme = scheme;
      q = q_of b;
      n = n_of b;
      m = m_of b;
      rounds = rounds;
      round = round;
      s = s;
      r0 = l.r0;
      t0 = l.t0;
      e0 = l.e0;
      e1 = kept_e1 scheme b s lent;
      rhos = l.rhos;
    }

-- what it replies
reply_of_lem : (scheme : Scheme) (phase : CardPhase) (rounds round : ℕ) (b s lent : List ℕ) (challenge : ℕ) →
    formed_reply scheme (lending_card scheme phase rounds round b s lent) challenge ≡ St.reply_bytes scheme b s lent challenge
unfolding formed_reply kept_e1 St.reply_bytes held_vectors three_replied three_vectors reply_three card_three r1_of t1_of map_of
reply_of_lem ThreePass phase rounds round b s lent challenge = refl
reply_of_lem FivePass phase rounds round b s lent challenge = refl

-- what is lent has elements, as many as the scheme draws
pub drawn_lends : (o : Terms) (lent : List ℕ) → all_below (q_of o.system) (take (drawn_length (passes o) (n_of o.system) (m_of o.system)) lent) ≡ true →
    Lends o.system lent
drawn_lends o lent h = rw (drawn_is (passes o) (n_of o.system) (m_of o.system)) at h

module _ (o : Terms) where
  -- ---- what the card sends

  pub sent_commitments_is : (r : ℕ) (lent : List ℕ) → sent_commitments (fresh_card o r) o.system lent ≡ St.given_commitments o lent
  unfolding sent_commitments card_domain fresh_card card_with opened_card
  sent_commitments_is r lent = refl

  pub sent_middle_is : (phase : CardPhase) (r : ℕ) (lent : List ℕ) (α : ℕ) → sent_middle (held_card o o.system phase r lent) o.system α ≡ St.given_middle o lent α
  unfolding sent_middle St.given_middle held_card card_with opened_card
  sent_middle_is phase r lent α = refl

  pub sent_reply_is : (phase : CardPhase) (r : ℕ) (lent : List ℕ) (challenge : ℕ) → sent_reply (held_card o o.system phase r lent) challenge ≡ St.given_reply o lent challenge
  unfolding sent_reply held_card card_with opened_card
  sent_reply_is phase r lent challenge = reply_of_lem (passes o) phase o.rounds r o.system (St.secret_of o) lent challenge

  -- ---- the call that is due, by the state

  due : {g : Given} {a : Asked} {card : Card} {r : ℕ} → CardState o g a card r → ℕ
  due (St.is_fresh h e c m p) = 1
  due (St.is_committed lent h five l e c cn m p) = 2
  due (St.is_ready lent h l e c cn m mn p) = 3
  due (St.is_over h e p) = 0

  due_is : {g : Given} {a : Asked} {card : Card} {r : ℕ} (s : CardState o g a card r) → phase_number card.phase ≡ due s
  unfolding due phase_number fresh_card held_card card_with closed_card
  due_is (St.is_fresh h e c m p) = ap (λ (k : Card). phase_number k.phase) e
  due_is (St.is_committed lent h five l e c cn m p) = ap (λ (k : Card). phase_number k.phase) e
  due_is (St.is_ready lent h l e c cn m mn p) = ap (λ (k : Card). phase_number k.phase) e
  due_is (St.is_over h e p) = ap (λ (k : Card). phase_number k.phase) e

  -- ---- what is known of the card where a call is due

  record Fresh (g : Given) (card : Card) (r : ℕ) : Type 0 where
    pub below : r < o.rounds
    pub is : card ≡ fresh_card o r
    pub no_commitments : Clear g.commitments r
    pub no_middles : Clear g.middles r
    pub no_replies : Clear g.replies r

  record Committed (g : Given) (card : Card) (r : ℕ) : Type 0 where
    pub lent : List ℕ
    pub below : r < o.rounds
    pub five : passes o ≡ FivePass
    pub lends : Lends o.system lent
    pub is : card ≡ held_card o o.system AnswerAlpha r lent
    pub commitments_given : g.commitments r ≡ some (St.given_commitments o lent)
    pub no_more_commitments : Clear g.commitments (r + 1)
    pub no_middles : Clear g.middles r
    pub no_replies : Clear g.replies r

  record Ready (g : Given) (a : Asked) (card : Card) (r : ℕ) : Type 0 where
    pub lent : List ℕ
    pub below : r < o.rounds
    pub lends : Lends o.system lent
    pub is : card ≡ held_card o o.system Reply r lent
    pub commitments_given : g.commitments r ≡ some (St.given_commitments o lent)
    pub no_more_commitments : Clear g.commitments (r + 1)
    pub middle_given : St.MiddleGiven o g a r lent
    pub no_more_middles : Clear g.middles (r + 1)
    pub no_replies : Clear g.replies r

  unfoldable Known : Given → Asked → Card → ℕ → ℕ → Type 0
  Known g a card r zero = Unit
  Known g a card r (suc zero) = Fresh g card r
  Known g a card r (suc (suc zero)) = Committed g card r
  Known g a card r (suc (suc (suc zero))) = Ready g a card r
  Known g a card r (suc (suc (suc (suc k)))) = Unit

  known : {g : Given} {a : Asked} {card : Card} {r : ℕ} (s : CardState o g a card r) → Known g a card r (due s)
  unfolding due Known
  known (St.is_fresh h e c m p) = record { below = h; is = e; no_commitments = c; no_middles = m; no_replies = p }
  known (St.is_committed lent h five l e c cn m p) =
      record { lent = lent; below = h; five = five; lends = l; is = e; commitments_given = c; no_more_commitments = cn; no_middles = m; no_replies = p }
  known (St.is_ready lent h l e c cn m mn p) =
      record { lent = lent; below = h; lends = l; is = e; commitments_given = c; no_more_commitments = cn; middle_given = m; no_more_middles = mn; no_replies = p }
  known (St.is_over h e p) = tt

  known_at : (g : Given) (a : Asked) (card : Card) (r : ℕ) → CardState o g a card r → (k : ℕ) → phase_number card.phase ≡ k → Known g a card r k
  known_at g a card r s k phase = subst (Known g a card r) (sym (due_is s) ∙ phase) (known s)

  -- ---- a call of the card leaves the ends linked

  moved : (w : World) (card : Card) (r : ℕ) (g : Given) → Link o w → GivenStays o w.history.given g → w.history.card_round ≤ r →
      CardState o g w.history.asked card r → ((k : ℕ) → k < r → Past o g w.history.asked k) → CardHistory o (card_moves w card r g) → Link o (card_moves w card r g)
  moved w card r g l stays later state past history =
      record {
        card_state = state;
        past = past;
        card_history = history;
        carrier_history = card_moved o w (card_moves w card r g) l.carrier_history refl refl refl refl refl;
        taken_given =
            record {
              commitments_given = stays_on _ _ _ l.taken_given.commitments_given stays.commitments_stay;
              middles_given = stays_on _ _ _ l.taken_given.middles_given stays.middles_stay;
            };
        all_accepted = l.all_accepted;
        behind = omega (arith, l.behind, later);
      }

  kept_past : (w : World) (g : Given) → Link o w → GivenStays o w.history.given g → (k : ℕ) → k < w.history.card_round → Past o g w.history.asked k
  kept_past w g l stays k h = past_stays o k stays (asked_same o w.history.asked) (l.past k h)

  -- ---- commit

  elements_of : (card : Card) (r : ℕ) (lent : List ℕ) → card ≡ fresh_card o r →
      all_below card.q (take (drawn_length card.scheme card.n card.m) lent) ≡ true →
      all_below (q_of o.system) (take (drawn_length (passes o) (n_of o.system) (m_of o.system)) lent) ≡ true
  unfolding fresh_card card_with opened_card
  elements_of card r lent e h = rw e at h

  lends_of : (card : Card) (r : ℕ) (lent : List ℕ) → card ≡ fresh_card o r →
      all_below card.q (take (drawn_length card.scheme card.n card.m) lent) ≡ true → Lends o.system lent
  lends_of card r lent e h = drawn_lends o lent (elements_of card r lent e h)

  committed_state : (g : Given) (a : Asked) (card : Card) (r : ℕ) (lent : List ℕ) → Fresh g card r → Lends o.system lent →
      CardState o (with_commitments o g r (sent_commitments card o.system lent)) a (committed_card card o.system lent) r
  committed_state g a card r lent f lends =
      let c = sent_commitments card o.system lent in
      let given = put_there g.commitments r c ∙ ap some (ap (λ (k : Card). sent_commitments k o.system lent) f.is ∙ sent_commitments_is r lent) in
      let clear = put_clear g.commitments r c f.no_commitments in
      let is = ap (λ (k : Card). committed_card k o.system lent) f.is in
      by_scheme (passes o)
      (λ three. St.is_ready lent f.below lends (is ∙ committed_is o r o.system lent Reply (three_behind (passes o) three)) given clear (St.no_middle three) (clear_next g.middles r f.no_middles) f.no_replies)
      (λ five. St.is_committed lent f.below five lends (is ∙ committed_is o r o.system lent AnswerAlpha (five_behind (passes o) five)) given clear f.no_middles f.no_replies)

  commitments_stay : (g : Given) (r : ℕ) (c : List ℕ) → Clear g.commitments r → GivenStays o g (with_commitments o g r c)
  commitments_stay g r c clear = record { commitments_stay = put_stays g.commitments r c clear; middles_stay = λ k x e. e; replies_stay = λ k x e. e }

  pub commit_linked : (w : World) (lent : List ℕ) (out : ℕ) → Link o w → commit_refusal w.card o.system lent out ≡ 0 →
      Link o (card_moves w (committed_card w.card o.system lent) w.history.card_round (with_commitments o w.history.given w.history.card_round (sent_commitments w.card o.system lent)))
  unfolding Known
  commit_linked w lent out l none =
      let k = commit_taken w.card o.system lent out none in
      let f : Fresh w.history.given w.card w.history.card_round = known_at _ _ _ _ l.card_state 1 k.due in
      let lends = lends_of w.card w.history.card_round lent f.is k.elements in
      let stays = commitments_stay w.history.given w.history.card_round (sent_commitments w.card o.system lent) f.no_commitments in
      moved w _ w.history.card_round _ l stays (le_refl _) (committed_state w.history.given w.history.asked w.card w.history.card_round lent f lends) (kept_past w _ l stays)
      (commit_history o w o.system lent _ l.card_history k.due)

  -- ---- reply to α

  answered_state : (g : Given) (a : Asked) (card : Card) (r α : ℕ) → Committed g card r → a.alphas r ≡ some α →
      CardState o (with_middles o g r (sent_middle card o.system α)) a (answered_card card) r
  answered_state g a card r α f asked =
      let l = sent_middle card o.system α in
      let given = put_there g.middles r l ∙ ap some (ap (λ (k : Card). sent_middle k o.system α) f.is ∙ sent_middle_is AnswerAlpha r f.lent α) in
      St.is_ready f.lent f.below f.lends (ap answered_card f.is ∙ answered_is o r o.system f.lent) f.commitments_given f.no_more_commitments
      (St.with_middle_is f.five α asked given) (put_clear g.middles r l f.no_middles) f.no_replies

  pub answer_linked : (w : World) (α out : ℕ) → Link o w → alpha_refusal w.card o.system α out ≡ 0 → w.history.asked.alphas w.history.card_round ≡ some α →
      Link o (card_moves w (answered_card w.card) w.history.card_round (with_middles o w.history.given w.history.card_round (sent_middle w.card o.system α)))
  unfolding Known
  answer_linked w α out l none asked =
      let k = alpha_taken w.card o.system α out none in
      let f : Committed w.history.given w.card w.history.card_round = known_at _ _ _ _ l.card_state 2 k.due in
      let stays : GivenStays o w.history.given (with_middles o w.history.given w.history.card_round (sent_middle w.card o.system α)) =
      record { commitments_stay = λ k x e. e; middles_stay = put_stays w.history.given.middles w.history.card_round _ f.no_middles; replies_stay = λ k x e. e } in
      moved w _ w.history.card_round _ l stays (le_refl _) (answered_state w.history.given w.history.asked w.card w.history.card_round α f asked) (kept_past w _ l stays)
      (answer_history o w _ l.card_history k.due)

  -- ---- reply

  scheme_kept : (phase : CardPhase) (r : ℕ) (lent : List ℕ) → (held_card o o.system phase r lent).scheme ≡ passes o
  unfolding held_card card_with opened_card
  scheme_kept phase r lent = refl

  replied_state : (g : Given) (a : Asked) (card : Card) (r challenge : ℕ) → Ready g a card r → o.rounds < 256 →
      CardState o (with_replies o g r (sent_reply card challenge)) a (replied_card card) (r + 1)
  replied_state g a card r challenge f small =
      let l = sent_reply card challenge in
      let clear = put_clear g.replies r l f.no_replies in
      let is = ap replied_card f.is in
      elim (dec_le o.rounds (r + 1)) [
        | yes last ↦ St.is_over (omega (arith, f.below, last)) (is ∙ replied_last o r o.system f.lent f.below last small) clear
        | no more ↦
            let below = lt_of_not-le more in
            St.is_fresh below (is ∙ replied_next o r o.system f.lent below small) f.no_more_commitments f.no_more_middles clear
      ]

  pub reply_linked : (w : World) (challenge out : ℕ) → Link o w → o.rounds < 256 → reply_refusal w.card challenge out ≡ 0 →
      w.history.asked.challenges w.history.card_round ≡ some challenge →
      Link o (card_moves w (replied_card w.card) (w.history.card_round + 1) (with_replies o w.history.given w.history.card_round (sent_reply w.card challenge)))
  unfolding Known
  reply_linked w challenge out l small none asked =
      let r = w.history.card_round in
      let k = reply_taken_lem w.card challenge out none in
      let f : Ready w.history.given w.history.asked w.card r = known_at _ _ _ _ l.card_state 3 k.due in
      let g = with_replies o w.history.given r (sent_reply w.card challenge) in
      let scheme : w.card.scheme ≡ passes o = ap (λ (c : Card). c.scheme) f.is ∙ scheme_kept Reply r f.lent in
      let stays : GivenStays o w.history.given g =
      record { commitments_stay = λ k x e. e; middles_stay = λ k x e. e; replies_stay = put_stays w.history.given.replies r _ f.no_replies } in
      let last : Past o g w.history.asked r =
      record {
        lent = f.lent;
        challenge = challenge;
        lends = f.lends;
        commitments_given = f.commitments_given;
        middle_given = St.middle_stays o r f.lent stays (asked_same o w.history.asked) f.middle_given;
        challenge_given = asked;
        challenge_value = rw scheme at k.value;
        reply_given = put_there w.history.given.replies r _ ∙ ap some (ap (λ (c : Card). sent_reply c challenge) f.is ∙ sent_reply_is Reply r f.lent challenge);
      } in
      moved w _ (r + 1) g l stays (omega arith) (replied_state w.history.given w.history.asked w.card r challenge f small)
      (λ j h. ⊎_elim (λ (same : j ≡ r). rw same last) (λ (before : j < r). kept_past w g l stays j before) (eq-or-lt_of_le (omega arith)))
      (reply_history o w _ small l.card_history k.due)

  -- ---- a call that is due is not refused

  module _ (good : system_refusal o.system ≡ 0) where
    pub commit_goes : (w : World) (lent : List ℕ) (out : ℕ) → Link o w → phase_number w.card.phase ≡ 1 →
        length lent ≡ lent_length (passes o) (n_of o.system) (m_of o.system) → out ≡ commitments_length (passes o) →
        Elements (q_of o.system) (take (drawn_length (passes o) (n_of o.system) (m_of o.system)) lent) → commit_refusal w.card o.system lent out ≡ 0
    unfolding fresh_card card_with opened_card phase_number Known
    commit_goes w lent out l phase long room elements =
        let f : Fresh w.history.given w.card w.history.card_round = known_at _ _ _ _ l.card_state 1 phase in
        ap (λ (k : Card). commit_refusal k o.system lent out) f.is ∙
        commit_due (fresh_card o w.history.card_round) o.system lent out
        (record { due = refl; good = good; fits = sizes_has o.system _ _ _ refl refl refl; lent_length_is = long; room = room; elements = at_all_below _ _ elements })

    pub answer_goes : (w : World) (α out : ℕ) → Link o w → phase_number w.card.phase ≡ 2 → out ≡ n_of o.system + m_of o.system → α < q_of o.system →
        alpha_refusal w.card o.system α out ≡ 0
    unfolding held_card card_with opened_card phase_number Known
    answer_goes w α out l phase room element =
        let f : Committed w.history.given w.card w.history.card_round = known_at _ _ _ _ l.card_state 2 phase in
        ap (λ (k : Card). alpha_refusal k o.system α out) f.is ∙
        alpha_due (held_card o o.system AnswerAlpha w.history.card_round f.lent) o.system α out
        (record { due = refl; good = good; fits = sizes_has o.system _ _ _ refl refl refl; room = room; element = element })

    pub reply_goes : (w : World) (challenge out : ℕ) → Link o w → phase_number w.card.phase ≡ 3 →
        out ≡ reply_length (passes o) (n_of o.system) (m_of o.system) → challenge < challenges (passes o) → reply_refusal w.card challenge out ≡ 0
    unfolding held_card card_with opened_card phase_number Known
    reply_goes w challenge out l phase room value =
        let f : Ready w.history.given w.history.asked w.card w.history.card_round = known_at _ _ _ _ l.card_state 3 phase in
        let k = accepted o.system good in
        ap (λ (c : Card). reply_refusal c challenge out) f.is ∙
        reply_due (held_card o o.system Reply w.history.card_round f.lent) challenge out
        (record { due = refl; sizes = sizes_true (q_of o.system) (n_of o.system) (m_of o.system) k.q_is_field (k.n_low, k.n_high) (k.m_low, k.m_high); room = room; value = value })

  -- ---- a call that is not refused has right lengths, elements and challenge

  pub commit_fits : (w : World) (lent : List ℕ) (out : ℕ) → Link o w → commit_refusal w.card o.system lent out ≡ 0 →
      (length lent ≡ lent_length (passes o) (n_of o.system) (m_of o.system)) × (out ≡ commitments_length (passes o)) ×
      Elements (q_of o.system) (take (drawn_length (passes o) (n_of o.system) (m_of o.system)) lent)
  unfolding fresh_card card_with opened_card Known
  commit_fits w lent out l none =
      let k = commit_taken w.card o.system lent out none in
      let f : Fresh w.history.given w.card w.history.card_round = known_at _ _ _ _ l.card_state 1 k.due in (
        k.lent_length_is ∙ ap (λ (c : Card). lent_length c.scheme c.n c.m) f.is,
        k.room ∙ ap (λ (c : Card). commitments_length c.scheme) f.is,
        all_below_at _ _ (elements_of w.card w.history.card_round lent f.is k.elements),
      )

  pub answer_fits : (w : World) (α out : ℕ) → Link o w → alpha_refusal w.card o.system α out ≡ 0 →
      (out ≡ n_of o.system + m_of o.system) × (α < q_of o.system)
  unfolding held_card card_with opened_card Known
  answer_fits w α out l none =
      let k = alpha_taken w.card o.system α out none in
      let f : Committed w.history.given w.card w.history.card_round = known_at _ _ _ _ l.card_state 2 k.due in
      let q : w.card.q ≡ q_of o.system = ap (λ (c : Card). c.q) f.is in
      (k.room ∙ ap (λ (c : Card). c.n + c.m) f.is, omega (arith, k.element, q))

  pub reply_fits : (w : World) (challenge out : ℕ) → Link o w → reply_refusal w.card challenge out ≡ 0 →
      (out ≡ reply_length (passes o) (n_of o.system) (m_of o.system)) × (challenge < challenges (passes o))
  unfolding held_card card_with opened_card Known
  reply_fits w challenge out l none =
      let k = reply_taken_lem w.card challenge out none in
      let f : Ready w.history.given w.history.asked w.card w.history.card_round = known_at _ _ _ _ l.card_state 3 k.due in
      let most : challenges w.card.scheme ≡ challenges (passes o) = ap (λ (c : Card). challenges c.scheme) f.is in
      (k.room ∙ ap (λ (c : Card). reply_length c.scheme c.n c.m) f.is, omega (arith, k.value, most))
