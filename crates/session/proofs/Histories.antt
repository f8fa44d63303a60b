-- What is claimed of every list of calls, honest or not, from an opening that is not refused. Assumes nothing.
use Prim.Native.Nat.{ℕ, zero, suc, ◌+◌, ◌<◌}
use mathlib.Core.Path.{◌≡◌, refl, sym, ap, subst, ◌∙◌}
use mathlib.Core.Bool.{Bool, true, false, cond}
use mathlib.Core.List.{List, [], ◌∷◌}
use mathlib.Core.Logic.{inl, inr, ◌↔◌}
use mathlib.Core.Option.{some}
use native.Mathlib.Nat.{le_refl}
use native.Mathlib.Numerals.{add-one}
use native.Mathlib.Omega.{arith}
use lib.Dec.{eqb, leb}
use borrow.Author.Tests.{eqb-true, eqb-false, leb-true}
use Rattle.slices.proofs.Booleans.{and_left, and_right}
use Rattle.refusal.specs.Refusal.{kept}
use Rattle.refusal.proofs.Refusals.{first_zero, later_zero, test_holds, kept_accepted, kept_refused}
use Rattle.system.proofs.SystemLayout.{accepted}
use Rattle.scheme.specs.declared.Scheme.{Scheme}
use Rattle.scheme.specs.declared.Scheme.TheVariants.{ThreePass, FivePass}
use Rattle.scheme.specs.Scheme.{is_rounds}
use Rattle.session_state.specs.declared.Verdict.TheVariants.{Accepted, Rejected}
use Rattle.session_state.proofs.States.{ByState, by_state_eleven, by_state_ten}
use Rattle.card_state.specs.declared.session.CardPhase.{CardPhase}
use Rattle.card_state.specs.declared.session.CardPhase.TheVariants.{Commit, AnswerAlpha, Reply}
use Rattle.card_state.specs.Card as CardCalls
use Rattle.card_state.proofs.Taken as CardTaken
use Rattle.card_state.proofs.Eleven as CardEleven
use Rattle.carrier_state.specs.declared.session.CarrierPhase.{CarrierPhase}
use Rattle.carrier_state.specs.declared.session.CarrierPhase.TheVariants.{TakeCommitments, SetAlpha, TakeMiddle, SetChallenge, TakeReply}
use Rattle.carrier_state.specs.declared.session.CarrierPhase.TheVariants as CarrierPhases
use Rattle.carrier_state.specs.declared.session.Carrier.{Carrier}
use Rattle.carrier_state.specs.Carrier as CarrierCalls
use Rattle.carrier_state.proofs.Eleven as CarrierEleven
use Rattle.session.specs.Session.{Terms, passes, Call, commit, answer_alpha, reply, take_commitments, set_alpha, take_middle, set_challenge, take_reply, Log, Judgement, World, opened, refusal, effect, step, after}
use Rattle.session.specs.Histories.{accept_of, accept_count, CardOver, RejectedOne, AcceptedAll, CarrierOver, IsLogged, Next, here, later, card_order, CardMade, carrier_order, CarrierMade, on_card, on_carrier, place_of, OnCard, OverAt, NextAt, DueAt, StateRefusals, CarrierClaim, CardClaim}
use Rattle.session.proofs.Logs.{Clear, none_given, given_before}
use Rattle.session.proofs.Phases.{same_card_phase, same_carrier_phase, not_both, next_unique}
use Rattle.session.proofs.Schemes.{by_scheme}
use Rattle.session.proofs.CarrierHistory as Ca
use Rattle.session.proofs.CarrierHistory.{Answered, AllAccepted, CarrierHistory, CarrierState, Progress, CarrierOpens}
use Rattle.session.proofs.CardHistory as Cd
use Rattle.session.proofs.CardHistory.{CardHistory, CardGoes, CardProgress}

not_given : {A : Type 0} (log : Log A) (r : ℕ) → Clear log r → IsLogged (log r) → ⊥
not_given log r clear (x, e) = none_given x (sym (clear r (le_refl r)) ∙ e)

-- ---- the count

count_step : (judged : Log Judgement) (k : ℕ) → accept_count judged (k + 1) ≡ accept_count judged k + accept_of (judged k)
unfolding accept_count
count_step judged k = rw (add-one)

answer_counts : (judged : Log Judgement) (k : ℕ) (answer : Bool) → Answered judged k answer → accept_of (judged k) ≡ cond answer 1 0
unfolding accept_of
answer_counts judged k answer (j, e, is) = ap accept_of e ∙ ap (λ (t : Bool). cond t 1 0) is

all_count : (judged : Log Judgement) (r : ℕ) → AllAccepted judged r → accept_count judged r ≡ r
unfolding accept_count
all_count judged zero all = refl
all_count judged (suc r) all =
    omega (arith, all_count judged r (λ k h. all k (omega arith)), answer_counts judged r true (all r (le_refl _)))

none_rejected : (judged : Log Judgement) (r : ℕ) → AllAccepted judged r → Clear judged r → (k : ℕ) (j : Judgement) → judged k ≡ some j → j.answer ≡ false → ⊥
none_rejected judged r all clear k j e is_false =
    Ca.not_both_answers judged k (all k (given_before judged r k j clear e)) (j, e, is_false)

module _ (o : Terms) where
  -- ---- the carrier after a list of calls

  opens_carrier : CarrierCalls.open_refusal o.system o.scheme o.rounds o.key ≡ 0 → CarrierOpens o
  unfolding CarrierCalls.open_refusal is_rounds
  opens_carrier none =
      let a = accepted o.system (first_zero _ _ none) in
      let rounds = test_holds (is_rounds o.rounds) 1 tt (first_zero _ _ (later_zero _ _ (later_zero _ _ none))) in
      let least = leb-true 1 o.rounds (and_left (leb 1 o.rounds) (leb o.rounds 255) rounds) in
      let most = leb-true o.rounds 255 (and_right (leb 1 o.rounds) (leb o.rounds 255) rounds) in
      record { some_rounds = omega arith; few = omega arith; small = omega (arith, a.n_high, a.m_high) }

  module _ (k : CarrierOpens o) where
    carrier_effect : (w : World) (c : Call) → CarrierHistory o w → refusal w c ≡ 0 → CarrierHistory o (effect w c)
    unfolding refusal effect
    carrier_effect w (commit b lent out) x none = Ca.card_moved o w _ x refl refl refl refl refl
    carrier_effect w (answer_alpha b α out) x none = Ca.card_moved o w _ x refl refl refl refl refl
    carrier_effect w (reply challenge out) x none = Ca.card_moved o w _ x refl refl refl refl refl
    carrier_effect w (take_commitments c) x none = Ca.commitments_history o w c x none
    carrier_effect w (set_alpha α) x none = Ca.alpha_history o w α x none
    carrier_effect w (take_middle l) x none = Ca.middle_history o w l x none
    carrier_effect w (set_challenge challenge) x none = Ca.challenge_history o w challenge x none
    carrier_effect w (take_reply b r) x none = Ca.reply_history o k w b r x none

    pub carrier_started : CarrierHistory o (opened o)
    unfolding opened
    carrier_started =
        Ca.opened_carrier_lem o k (opened o) refl refl (λ i h. refl) (λ i h. refl) (λ i h. refl) (λ i h. refl) (λ i h. refl)

  module _ (few : o.rounds < 256) where
    card_effect : (w : World) (c : Call) → CardHistory o w → refusal w c ≡ 0 → CardHistory o (effect w c)
    unfolding refusal effect
    card_effect w (commit b lent out) x none = Cd.commit_history o w b lent _ x (CardTaken.commit_taken w.card b lent out none).due
    card_effect w (answer_alpha b α out) x none = Cd.answer_history o w _ x (CardTaken.alpha_taken w.card b α out none).due
    card_effect w (reply challenge out) x none = Cd.reply_history o w _ few x (CardTaken.reply_taken_lem w.card challenge out none).due
    card_effect w (take_commitments c) x none = record { goes = x.goes; replied = x.replied; no_replies = x.no_replies }
    card_effect w (set_alpha α) x none = record { goes = x.goes; replied = x.replied; no_replies = x.no_replies }
    card_effect w (take_middle l) x none = record { goes = x.goes; replied = x.replied; no_replies = x.no_replies }
    card_effect w (set_challenge challenge) x none = record { goes = x.goes; replied = x.replied; no_replies = x.no_replies }
    card_effect w (take_reply b r) x none = record { goes = x.goes; replied = x.replied; no_replies = x.no_replies }

  -- an opening of the card that is not refused has 1 to 255 rounds
  opens_card : CardCalls.open_refusal o.system o.scheme o.rounds o.key o.secret ≡ 0 → (0 < o.rounds) × (o.rounds < 256)
  unfolding is_rounds
  opens_card none =
      let rounds = (CardTaken.open_taken o.system o.scheme o.rounds o.key o.secret none).rounds_value in
      let least = leb-true 1 o.rounds (and_left (leb 1 o.rounds) (leb o.rounds 255) rounds) in
      let most = leb-true o.rounds 255 (and_right (leb 1 o.rounds) (leb o.rounds 255) rounds) in
      (omega arith, omega arith)

  pub card_started : 0 < o.rounds → CardHistory o (opened o)
  unfolding opened
  card_started some_rounds = Cd.opened_card_lem o (opened o) some_rounds refl refl (λ i h. refl) (λ i h. refl) (λ i h. refl)

-- a step keeps what the call keeps where it is not refused
pub stepped : (P : World → Type 0) (w : World) (c : Call) → P w → (refusal w c ≡ 0 → P (effect w c)) → P (step w c)
unfolding step
stepped P w c x keeps = go (eqb (refusal w c) 0) refl
  where
    go : (t : Bool) → eqb (refusal w c) 0 ≡ t → P (kept (refusal w c) w (effect w c))
    go true e = let none = eqb-true (refusal w c) 0 e in subst P (sym (kept_accepted (refusal w c) w (effect w c) none)) (keeps none)
    go false e = subst P (sym (kept_refused (refusal w c) w (effect w c) (eqb-false (refusal w c) 0 e))) x

along : (P : World → Type 0) → ((w : World) (c : Call) → P w → refusal w c ≡ 0 → P (effect w c)) → (cs : List Call) (w : World) → P w → P (after w cs)
unfolding after
along P keeps [] w x = x
along P keeps (c ∷ cs) w x = along P keeps cs (step w c) (stepped P w c x (keeps w c x))

-- ---- what follows of the carrier

module _ (o : Terms) (w : World) where
  rejected_count : (k : ℕ) → w.history.carrier_round ≡ k + 1 → AllAccepted w.history.judged k → Answered w.history.judged k false →
      accept_count w.history.judged w.history.carrier_round ≡ k
  rejected_count k over all last =
      let j = w.history.judged in
      ap (accept_count j) over ∙ count_step j k ∙ omega (arith, all_count j k all, answer_counts j k false last)

  count_is : CarrierHistory o w → w.carrier.accepted ≡ accept_count w.history.judged w.history.carrier_round
  unfolding CarrierCalls.closed_carrier
  count_is x = go x.state
    where
      go : CarrierState o w.history.asked w.history.taken w.history.judged w.carrier w.history.carrier_round →
          w.carrier.accepted ≡ accept_count w.history.judged w.history.carrier_round
      go (Ca.going p below all progress) = Ca.progress_count o progress ∙ sym (all_count _ _ all)
      go (Ca.accepted over all e) = ap (λ (c : Carrier). c.accepted) e ∙ sym over ∙ sym (all_count _ _ all)
      go (Ca.rejected k over below all last e) = ap (λ (c : Carrier). c.accepted) e ∙ sym (rejected_count k over all last)

  alive : CarrierHistory o w → w.history.carrier_round < o.rounds → AllAccepted w.history.judged w.history.carrier_round → CarrierOver o w.history → ⊥
  alive x below all (inl (k, j, e, is_false)) = none_rejected _ _ all x.no_judgements k j e is_false
  alive x below all (inr full) = absurd (omega (arith, all_count _ _ all, full, below))

  when_rejected : CarrierHistory o w → (w.carrier.phase ≡ CarrierPhases.Closed Rejected) ↔ RejectedOne w.history
  unfolding CarrierCalls.closed_carrier CarrierCalls.phase_number
  when_rejected x = (to x.state, from x.state)
    where
      to : CarrierState o w.history.asked w.history.taken w.history.judged w.carrier w.history.carrier_round →
          w.carrier.phase ≡ CarrierPhases.Closed Rejected → RejectedOne w.history
      to (Ca.going p below all progress) closed = absurd (Ca.progress_open o progress (ap CarrierCalls.phase_number (sym (Ca.progress_phase o progress) ∙ closed)))
      to (Ca.accepted over all e) closed = absurd (not_both (sym (ap (λ (c : Carrier). c.phase) e) ∙ closed))
      to (Ca.rejected k over below all (j, is, is_false) e) closed = (k, j, is, is_false)

      from : CarrierState o w.history.asked w.history.taken w.history.judged w.carrier w.history.carrier_round →
          RejectedOne w.history → w.carrier.phase ≡ CarrierPhases.Closed Rejected
      from (Ca.going p below all progress) (k, j, e, is_false) = absurd (none_rejected _ _ all x.no_judgements k j e is_false)
      from (Ca.accepted over all is) (k, j, e, is_false) = absurd (none_rejected _ _ all x.no_judgements k j e is_false)
      from (Ca.rejected k over below all last e) one = ap (λ (c : Carrier). c.phase) e

  when_accepted : CarrierHistory o w → (w.carrier.phase ≡ CarrierPhases.Closed Accepted) ↔ AcceptedAll o w.history
  unfolding CarrierCalls.closed_carrier CarrierCalls.phase_number
  when_accepted x = (to x.state, from x.state)
    where
      to : CarrierState o w.history.asked w.history.taken w.history.judged w.carrier w.history.carrier_round →
          w.carrier.phase ≡ CarrierPhases.Closed Accepted → AcceptedAll o w.history
      to (Ca.going p below all progress) closed = absurd (Ca.progress_open o progress (ap CarrierCalls.phase_number (sym (Ca.progress_phase o progress) ∙ closed)))
      to (Ca.accepted over all e) closed = all_count _ _ all ∙ over
      to (Ca.rejected k over below all last e) closed = absurd (not_both (sym closed ∙ ap (λ (c : Carrier). c.phase) e))

      from : CarrierState o w.history.asked w.history.taken w.history.judged w.carrier w.history.carrier_round →
          AcceptedAll o w.history → w.carrier.phase ≡ CarrierPhases.Closed Accepted
      from (Ca.going p below all progress) full = absurd (omega (arith, all_count _ _ all, full, below))
      from (Ca.accepted over all e) full = ap (λ (c : Carrier). c.phase) e
      from (Ca.rejected k over below all last e) full = absurd (omega (arith, rejected_count k over all last, full, below))

  rejected_is : CarrierHistory o w → CarrierState o w.history.asked w.history.taken w.history.judged w.carrier w.history.carrier_round →
      RejectedOne w.history → w.carrier ≡ CarrierCalls.closed_carrier Rejected (accept_count w.history.judged w.history.carrier_round)
  rejected_is x (Ca.going p below all progress) (k, j, e, is_false) = absurd (none_rejected _ _ all x.no_judgements k j e is_false)
  rejected_is x (Ca.accepted over all is) (k, j, e, is_false) = absurd (none_rejected _ _ all x.no_judgements k j e is_false)
  rejected_is x (Ca.rejected k over below all last e) one = e ∙ ap (CarrierCalls.closed_carrier Rejected) (sym (rejected_count k over all last))

  accepted_is : CarrierState o w.history.asked w.history.taken w.history.judged w.carrier w.history.carrier_round →
      AcceptedAll o w.history → w.carrier ≡ CarrierCalls.closed_carrier Accepted o.rounds
  accepted_is (Ca.going p below all progress) full = absurd (omega (arith, all_count _ _ all, full, below))
  accepted_is (Ca.accepted over all e) full = e
  accepted_is (Ca.rejected k over below all last e) full = absurd (omega (arith, rejected_count k over all last, full, below))

  -- ---- the call that is due

  carrier_three : (p : CarrierPhase) → passes o ≡ ThreePass → Next (CarrierMade w.history) (carrier_order ThreePass) p →
      Next (CarrierMade w.history) (carrier_order (passes o)) p
  carrier_three p three next = subst (λ (s : Scheme). Next (CarrierMade w.history) (carrier_order s) p) (sym three) next

  carrier_five : (p : CarrierPhase) → passes o ≡ FivePass → Next (CarrierMade w.history) (carrier_order FivePass) p →
      Next (CarrierMade w.history) (carrier_order (passes o)) p
  carrier_five p five next = subst (λ (s : Scheme). Next (CarrierMade w.history) (carrier_order s) p) (sym five) next

  progress_next : Clear w.history.judged w.history.carrier_round → (p : CarrierPhase) →
      Progress o w.history.asked w.history.taken w.carrier w.history.carrier_round p → Next (CarrierMade w.history) (carrier_order (passes o)) p
  unfolding CarrierMade carrier_order
  progress_next unjudged p (Ca.commitments_due e clear) =
      by_scheme (passes o) (λ three. carrier_three p three (here _ _ (not_given _ _ clear.no_commitments)))
      (λ five. carrier_five p five (here _ _ (not_given _ _ clear.no_commitments)))
  progress_next unjudged p (Ca.alpha_due c five taken e clear) =
      carrier_five p five (later _ _ _ (c, taken.taken) (here _ _ (not_given _ _ clear.no_alphas)))
  progress_next unjudged p (Ca.middle_due c α five taken set e clear) =
      carrier_five p five (later _ _ _ (c, taken.taken) (later _ _ _ (α, set) (here _ _ (not_given _ _ clear.no_middles))))
  progress_next unjudged p (Ca.challenge_due c m taken (Ca.none_held three) e clear) =
      carrier_three p three (later _ _ _ (c, taken.taken) (here _ _ (not_given _ _ clear.no_challenges)))
  progress_next unjudged p (Ca.challenge_due c m taken (Ca.turn_held five α l set got size is) e clear) =
      carrier_five p five
      (later _ _ _ (c, taken.taken) (later _ _ _ (α, set) (later _ _ _ (l, got) (here _ _ (not_given _ _ clear.no_challenges)))))
  progress_next unjudged p (Ca.reply_due c m challenge taken (Ca.none_held three) asked e clear) =
      carrier_three p three (later _ _ _ (c, taken.taken) (later _ _ _ (challenge, asked) (here _ _ (not_given _ _ unjudged))))
  progress_next unjudged p (Ca.reply_due c m challenge taken (Ca.turn_held five α l set got size is) asked e clear) =
      carrier_five p five
      (later _ _ _ (c, taken.taken) (later _ _ _ (α, set) (later _ _ _ (l, got) (later _ _ _ (challenge, asked) (here _ _ (not_given _ _ unjudged))))))

  carrier_phase_is : CarrierHistory o w → (p : CarrierPhase) → (CarrierCalls.phase_number p ≡ 0 → ⊥) → (w.carrier.phase ≡ p) ↔ DueAt o w.history (on_carrier p)
  unfolding OverAt NextAt
  carrier_phase_is x p nonzero = (to, from x.state)
    where
      to : w.carrier.phase ≡ p → DueAt o w.history (on_carrier p)
      to e =
          let f = Ca.at_phase o x.state p nonzero (ap CarrierCalls.phase_number e) in
          (alive x f.below f.all_accepted, progress_next x.no_judgements p f.progress)

      from : CarrierState o w.history.asked w.history.taken w.history.judged w.carrier w.history.carrier_round →
          DueAt o w.history (on_carrier p) → w.carrier.phase ≡ p
      from (Ca.going q below all progress) (open_yet, next) =
          Ca.progress_phase o progress ∙ next_unique _ q p (progress_next x.no_judgements q progress) next
      from (Ca.accepted over all e) (open_yet, next) = absurd (open_yet (inr (all_count _ _ all ∙ over)))
      from (Ca.rejected k over below all (j, is, is_false) e) (open_yet, next) = absurd (open_yet (inl (k, j, is, is_false)))

  carrier_closed : CarrierHistory o w → (CarrierCalls.phase_number w.carrier.phase ≡ 0) ↔ CarrierOver o w.history
  carrier_closed x = (to x.state, from x.state)
    where
      to : CarrierState o w.history.asked w.history.taken w.history.judged w.carrier w.history.carrier_round →
          CarrierCalls.phase_number w.carrier.phase ≡ 0 → CarrierOver o w.history
      to (Ca.going p below all progress) none = absurd (Ca.progress_open o progress (ap CarrierCalls.phase_number (sym (Ca.progress_phase o progress)) ∙ none))
      to (Ca.accepted over all e) none = inr (all_count _ _ all ∙ over)
      to (Ca.rejected k over below all (j, is, is_false) e) none = inl (k, j, is, is_false)

      from : CarrierState o w.history.asked w.history.taken w.history.judged w.carrier w.history.carrier_round →
          CarrierOver o w.history → CarrierCalls.phase_number w.carrier.phase ≡ 0
      from (Ca.going p below all progress) over = absurd (alive x below all over)
      from (Ca.accepted full all e) over = Ca.closed_phase o _ _ e
      from (Ca.rejected k next below all last e) over = Ca.closed_phase o _ _ e

  -- ---- what follows of the card

  card_three_lem : (p : CardPhase) → passes o ≡ ThreePass → Next (CardMade w.history) (card_order ThreePass) p →
      Next (CardMade w.history) (card_order (passes o)) p
  card_three_lem p three next = subst (λ (s : Scheme). Next (CardMade w.history) (card_order s) p) (sym three) next

  card_five_lem : (p : CardPhase) → passes o ≡ FivePass → Next (CardMade w.history) (card_order FivePass) p →
      Next (CardMade w.history) (card_order (passes o)) p
  card_five_lem p five next = subst (λ (s : Scheme). Next (CardMade w.history) (card_order s) p) (sym five) next

  card_next : Clear w.history.given.replies w.history.card_round → (p : CardPhase) → CardProgress o w.history.given w.card w.history.card_round p →
      Next (CardMade w.history) (card_order (passes o)) p
  unfolding CardMade card_order
  card_next unreplied p (Cd.commit_due is c m) =
      by_scheme (passes o) (λ three. card_three_lem p three (here _ _ (not_given _ _ c))) (λ five. card_five_lem p five (here _ _ (not_given _ _ c)))
  card_next unreplied p (Cd.alpha_due b lent is five given c m) = card_five_lem p five (later _ _ _ given (here _ _ (not_given _ _ m)))
  card_next unreplied p (Cd.reply_due b lent is given c (inl three) m) = card_three_lem p three (later _ _ _ given (here _ _ (not_given _ _ unreplied)))
  card_next unreplied p (Cd.reply_due b lent is given c (inr middle) m) =
      by_scheme (passes o) (λ three. card_three_lem p three (later _ _ _ given (here _ _ (not_given _ _ unreplied))))
      (λ five. card_five_lem p five (later _ _ _ given (later _ _ _ middle (here _ _ (not_given _ _ unreplied)))))

  card_phase_is : CardHistory o w → (p : CardPhase) → (CardCalls.phase_number p ≡ 0 → ⊥) → (w.card.phase ≡ p) ↔ DueAt o w.history (on_card p)
  unfolding OverAt NextAt
  card_phase_is x p nonzero = (to, from x.goes)
    where
      to : w.card.phase ≡ p → DueAt o w.history (on_card p)
      to e =
          let f = Cd.at_phase o x.goes p nonzero (ap CardCalls.phase_number e) in
          (λ over. absurd (omega (arith, f.below, over)), card_next x.no_replies p f.progress)

      from : CardGoes o w.history.given w.card w.history.card_round → DueAt o w.history (on_card p) → w.card.phase ≡ p
      from (Cd.going q below progress) (open_yet, next) = Cd.progress_phase o progress ∙ next_unique _ q p (card_next x.no_replies q progress) next
      from (Cd.over all e) (open_yet, next) = absurd (open_yet all)

  card_closed : CardHistory o w → (CardCalls.phase_number w.card.phase ≡ 0) ↔ CardOver o w.history
  card_closed x = (to x.goes, from x.goes)
    where
      to : CardGoes o w.history.given w.card w.history.card_round → CardCalls.phase_number w.card.phase ≡ 0 → CardOver o w.history
      to (Cd.going p below progress) none = absurd (Cd.progress_open o progress (ap CardCalls.phase_number (sym (Cd.progress_phase o progress)) ∙ none))
      to (Cd.over all e) none = all

      from : CardGoes o w.history.given w.card w.history.card_round → CardOver o w.history → CardCalls.phase_number w.card.phase ≡ 0
      from (Cd.going p below progress) all = absurd (omega (arith, below, all))
      from (Cd.over all e) over = Cd.closed_phase o e

  card_zero : CardGoes o w.history.given w.card w.history.card_round → CardOver o w.history → w.card ≡ CardCalls.closed_card
  card_zero (Cd.going p below progress) all = absurd (omega (arith, below, all))
  card_zero (Cd.over all e) over = e

-- ---- refusals by the state

-- where a call's refusal is by the state first, by when its session is closed and when it is due
by_state : {Ended Due : Type 0} (number phase due : ℕ) → ByState number phase due → (phase ≡ 0) ↔ Ended → (phase ≡ due) ↔ Due →
    ((number ≡ 11) ↔ Ended) × ((number ≡ 10) ↔ ((Ended → ⊥) × (Due → ⊥)))
by_state number phase due s closed is_due =
    let eleven = by_state_eleven number phase due s in
    let ten = by_state_ten number phase due s in (
      (λ e. closed.0 (eqb-true phase 0 (sym eleven ∙ rw e)), λ ended. eqb-true number 11 (eleven ∙ rw (closed.1 ended))),
      (
        λ e. let (open_yet, other) = ten.0 e in (λ ended. open_yet (closed.1 ended), λ is. other (is_due.1 is)),
        λ (open_yet, other). ten.1 (λ none. open_yet (closed.0 none), λ same. other (is_due.0 same)),
      ),
    )

module _ (o : Terms) (w : World) where
  pub carrier_number : CarrierHistory o w → (p : CarrierPhase) → (CarrierCalls.phase_number p ≡ 0 → ⊥) →
      (CarrierCalls.phase_number w.carrier.phase ≡ CarrierCalls.phase_number p) ↔ DueAt o w.history (on_carrier p)
  carrier_number x p nonzero =
      let is = carrier_phase_is o w x p nonzero in
      (λ e. is.0 (same_carrier_phase w.carrier.phase p nonzero e), λ due. ap CarrierCalls.phase_number (is.1 due))

  pub card_number : CardHistory o w → (p : CardPhase) → (CardCalls.phase_number p ≡ 0 → ⊥) →
      (CardCalls.phase_number w.card.phase ≡ CardCalls.phase_number p) ↔ DueAt o w.history (on_card p)
  card_number x p nonzero =
      let is = card_phase_is o w x p nonzero in
      (λ e. is.0 (same_card_phase w.card.phase p nonzero e), λ due. ap CardCalls.phase_number (is.1 due))

  carrier_state : CarrierHistory o w → (c : Call) (p : CarrierPhase) → (CarrierCalls.phase_number p ≡ 0 → ⊥) →
      ByState (refusal w c) (CarrierCalls.phase_number w.carrier.phase) (CarrierCalls.phase_number p) → place_of c ≡ on_carrier p → StateRefusals o w c
  unfolding OverAt
  carrier_state x c p nonzero s at =
      let both = by_state (refusal w c) _ _ s (carrier_closed o w x) (carrier_number x p nonzero) in
      record { eleven_exactly = rw at both.0; ten_exactly = rw at both.1 }

  card_state : CardHistory o w → (c : Call) (p : CardPhase) → (CardCalls.phase_number p ≡ 0 → ⊥) →
      ByState (refusal w c) (CardCalls.phase_number w.card.phase) (CardCalls.phase_number p) → place_of c ≡ on_card p → StateRefusals o w c
  unfolding OverAt
  card_state x c p nonzero s at =
      let both = by_state (refusal w c) _ _ s (card_closed o w x) (card_number x p nonzero) in
      record { eleven_exactly = rw at both.0; ten_exactly = rw at both.1 }

  card_refusals : CardHistory o w → (c : Call) → OnCard (place_of c) → StateRefusals o w c
  unfolding refusal place_of OnCard CardCalls.phase_number
  card_refusals x (commit b lent out) on = card_state x (commit b lent out) Commit (λ e. absurd (omega arith)) (CardEleven.commit_by_state w.card b lent out) refl
  card_refusals x (answer_alpha b α out) on = card_state x (answer_alpha b α out) AnswerAlpha (λ e. absurd (omega arith)) (CardEleven.alpha_by_state w.card b α out) refl
  card_refusals x (reply challenge out) on = card_state x (reply challenge out) Reply (λ e. absurd (omega arith)) (CardEleven.reply_by_state w.card challenge out) refl
  card_refusals x (take_commitments c) on = absurd on
  card_refusals x (set_alpha α) on = absurd on
  card_refusals x (take_middle l) on = absurd on
  card_refusals x (set_challenge challenge) on = absurd on
  card_refusals x (take_reply b r) on = absurd on

  carrier_refusals : CarrierHistory o w → (c : Call) → (OnCard (place_of c) → ⊥) → StateRefusals o w c
  unfolding refusal place_of OnCard CarrierCalls.phase_number
  carrier_refusals x (commit b lent out) other = absurd (other tt)
  carrier_refusals x (answer_alpha b α out) other = absurd (other tt)
  carrier_refusals x (reply challenge out) other = absurd (other tt)
  carrier_refusals x (take_commitments c) other =
      carrier_state x (take_commitments c) TakeCommitments (λ e. absurd (omega arith)) (CarrierEleven.commitments_by_state w.carrier c) refl
  carrier_refusals x (set_alpha α) other = carrier_state x (set_alpha α) SetAlpha (λ e. absurd (omega arith)) (CarrierEleven.alpha_by_state w.carrier α) refl
  carrier_refusals x (take_middle l) other = carrier_state x (take_middle l) TakeMiddle (λ e. absurd (omega arith)) (CarrierEleven.middle_by_state w.carrier l) refl
  carrier_refusals x (set_challenge challenge) other =
      carrier_state x (set_challenge challenge) SetChallenge (λ e. absurd (omega arith)) (CarrierEleven.challenge_by_state w.carrier challenge) refl
  carrier_refusals x (take_reply b r) other = carrier_state x (take_reply b r) TakeReply (λ e. absurd (omega arith)) (CarrierEleven.reply_by_state w.carrier b r) refl

  carrier_claimed : CarrierHistory o w → CarrierClaim o w
  carrier_claimed x =
      record {
        judged = x.checked;
        unjudged = λ r (j, e). given_before w.history.judged w.history.carrier_round r j x.no_judgements e;
        count = count_is o w x;
        rejected_exactly = when_rejected o w x;
        accepted_exactly = when_accepted o w x;
        rejected_keeps = rejected_is o w x x.state;
        accepted_keeps = accepted_is o w x.state;
        phase_is = carrier_phase_is o w x;
        state_refusals = carrier_refusals x;
      }

  card_claimed : CardHistory o w → CardClaim o w
  card_claimed x =
      record {
        replies_given = λ r. (λ (l, e). given_before w.history.given.replies w.history.card_round r l x.no_replies e, x.replied r);
        closed_exactly = (λ e. (card_closed o w x).0 (Cd.closed_phase o e), card_zero o w x.goes);
        phase_is = card_phase_is o w x;
        state_refusals = card_refusals x;
      }

-- ---- every list of calls

pub carrier_after : (o : Terms) → CarrierCalls.open_refusal o.system o.scheme o.rounds o.key ≡ 0 → (calls : List Call) → CarrierHistory o (after (opened o) calls)
carrier_after o none calls = let k = opens_carrier o none in along (CarrierHistory o) (carrier_effect o k) calls (opened o) (carrier_started o k)

pub carrier_claim : (o : Terms) → CarrierCalls.open_refusal o.system o.scheme o.rounds o.key ≡ 0 → (calls : List Call) → CarrierClaim o (after (opened o) calls)
carrier_claim o none calls = carrier_claimed o _ (carrier_after o none calls)

pub card_claim : (o : Terms) → CardCalls.open_refusal o.system o.scheme o.rounds o.key o.secret ≡ 0 → (calls : List Call) → CardClaim o (after (opened o) calls)
card_claim o none calls =
    let k = opens_card o none in
    card_claimed o _ (along (CardHistory o) (card_effect o k.1) calls (opened o) (card_started o k.0))
