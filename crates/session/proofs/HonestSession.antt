-- The claim about whole honest sessions: one theorem over the list of calls. Assumes nothing.
use Prim.Native.Nat.{ℕ, ◌≤◌}
use mathlib.Core.Path.{◌≡◌, refl}
use mathlib.Core.Bool.{true}
use mathlib.Core.List.{List, [], ◌∷◌, ◌++◌}
use native.Mathlib.Nat.{not-suc-le-zero, le_refl}
use native.Mathlib.Omega.{arith}
use lib.Dec.{leb}
use borrow.Author.Tests.{leb-true}
use Rattle.slices.proofs.Booleans.{and_left, and_right}
use Rattle.scheme.specs.Scheme.{is_rounds}
use Rattle.system.specs.System.{n_of}
use Rattle.exchange.proofs.Formed.{as_vector_is}
use Rattle.session_state.specs.declared.Verdict.TheVariants.{Accepted}
use Rattle.card_state.specs.declared.session.CardPhase.TheVariants.{Commit, AnswerAlpha, Reply}
use Rattle.card_state.specs.Card as CardCalls
use Rattle.card_state.proofs.Taken.{open_taken}
use Rattle.carrier_state.specs.declared.session.CarrierPhase.TheVariants.{TakeCommitments, SetAlpha, TakeMiddle, SetChallenge, TakeReply}
use Rattle.carrier_state.specs.Carrier as CarrierCalls
use Rattle.session.specs.Session.{Terms, Call, commit, answer_alpha, reply, take_commitments, set_alpha, take_middle, set_challenge, take_reply, World, opened, refusal, effect, step, after}
use Rattle.session.specs.Histories.{Place, on_card, on_carrier, place_of, IsDue}
use Rattle.session.specs.Honest.{Unaltered, Honest, Fitting, RoundAccepted, Accepts, Ended, DueGoes, Holds}
use Rattle.session.proofs.Logs.{none_given}
use Rattle.session.proofs.CarrierHistory as Ca
use Rattle.session.proofs.CarrierHistory.{CarrierState}
use Rattle.session.proofs.CardHistory as Cd
use Rattle.session.proofs.CardHistory.{card_opens, CardGoes}
use Rattle.session.proofs.Histories.{card_started, carrier_started, card_number, carrier_number, stepped}
use Rattle.session.proofs.States as St
use Rattle.session.proofs.States.{Link}
use Rattle.session.proofs.CardSide.{commit_linked, answer_linked, reply_linked, commit_goes, answer_goes, reply_goes, commit_fits, answer_fits, reply_fits}
use Rattle.session.proofs.CarrierSide as C
use Rattle.session.proofs.Verdicts as Verdicts
use Rattle.session.proofs.Verdicts.{Opens, of_carrier}

-- ---- openings that are not refused

pub opens : (o : Terms) → CardCalls.open_refusal o.system o.scheme o.rounds o.key o.secret ≡ 0 → Opens o
unfolding is_rounds
opens o none =
    let k = open_taken o.system o.scheme o.rounds o.key o.secret none in
    let most = leb-true o.rounds 255 (and_right (leb 1 o.rounds) (leb o.rounds 255) k.rounds_value) in
    let least = leb-true 1 o.rounds (and_left (leb 1 o.rounds) (leb o.rounds 255) k.rounds_value) in
    record {
      good = k.good;
      few = omega arith;
      some_rounds = omega arith;
      secret_is = as_vector_is o.system k.good (n_of o.system) o.secret k.secret_length k.secret_elements;
      key_is = k.key;
    }

pub start : (o : Terms) → Opens o → Link o (opened o)
unfolding opened
start o k =
    record {
      card_state = St.is_fresh k.some_rounds (card_opens o) (λ i h. refl) (λ i h. refl) (λ i h. refl);
      past = λ i h. absurd (not-suc-le-zero h);
      card_history = card_started o k.some_rounds;
      carrier_history = carrier_started o (of_carrier o k);
      taken_given = record { commitments_given = λ i x e. absurd (none_given x e); middles_given = λ i x e. absurd (none_given x e) };
      all_accepted = λ i h. absurd (not-suc-le-zero h);
      behind = le_refl 0;
    }

-- ---- the phase in which a call is due

unfoldable AtPlace : World → Place → Type 0
AtPlace w (on_card phase) = CardCalls.phase_number w.card.phase ≡ CardCalls.phase_number phase
AtPlace w (on_carrier phase) = CarrierCalls.phase_number w.carrier.phase ≡ CarrierCalls.phase_number phase

unfoldable pub AtPhase : World → Call → Type 0
unfolding AtPlace place_of
AtPhase w c = AtPlace w (place_of c)

at_phase : (o : Terms) (w : World) (c : Call) → Link o w → IsDue o w.history c → AtPhase w c
unfolding place_of AtPlace AtPhase CardCalls.phase_number CarrierCalls.phase_number
at_phase o w (commit b lent out) l due = (card_number o w l.card_history Commit (λ e. absurd (omega arith))).1 due
at_phase o w (answer_alpha b α out) l due = (card_number o w l.card_history AnswerAlpha (λ e. absurd (omega arith))).1 due
at_phase o w (reply challenge out) l due = (card_number o w l.card_history Reply (λ e. absurd (omega arith))).1 due
at_phase o w (take_commitments c) l due = (carrier_number o w l.carrier_history TakeCommitments (λ e. absurd (omega arith))).1 due
at_phase o w (set_alpha α) l due = (carrier_number o w l.carrier_history SetAlpha (λ e. absurd (omega arith))).1 due
at_phase o w (take_middle m) l due = (carrier_number o w l.carrier_history TakeMiddle (λ e. absurd (omega arith))).1 due
at_phase o w (set_challenge challenge) l due = (carrier_number o w l.carrier_history SetChallenge (λ e. absurd (omega arith))).1 due
at_phase o w (take_reply b r) l due = (carrier_number o w l.carrier_history TakeReply (λ e. absurd (omega arith))).1 due

module _ (o : Terms) (k : Opens o) where
  -- ---- one call

  pub effect_linked : (w : World) (c : Call) → Link o w → refusal w c ≡ 0 → Unaltered o w.history c → Link o (effect w c)
  unfolding refusal effect Unaltered
  effect_linked w (commit b lent out) l none e = rw e (commit_linked o w lent out l (rw e at none))
  effect_linked w (answer_alpha b α out) l none e = rw e.0 (answer_linked o w α out l (rw e.0 at none) e.1)
  effect_linked w (reply challenge out) l none e = reply_linked o w challenge out l k.few none e
  effect_linked w (take_commitments c) l none e = C.commitments_linked o w c l none e
  effect_linked w (set_alpha α) l none e = C.alpha_linked o w α l none
  effect_linked w (take_middle m) l none e = C.middle_linked o w m l none e
  effect_linked w (set_challenge challenge) l none e = C.challenge_linked o w challenge l none
  effect_linked w (take_reply b r) l none e = rw e.0 (Verdicts.reply_linked o k w r l (rw e.0 at none) e.1)

  step_linked : (w : World) (c : Call) → Link o w → (refusal w c ≡ 0 → Unaltered o w.history c) → Link o (step w c)
  step_linked w c l honest = stepped (Link o) w c l (λ none. effect_linked w c l none (honest none))

  -- a call in its phase is not refused
  pub phase_goes : (w : World) (c : Call) → Link o w → AtPhase w c → Fitting o c → refusal w c ≡ 0
  unfolding place_of AtPlace AtPhase Fitting refusal CardCalls.phase_number CarrierCalls.phase_number
  phase_goes w (commit b lent out) l phase (e, long, room, elements) = rw e (commit_goes o k.good w lent out l phase long room elements)
  phase_goes w (answer_alpha b α out) l phase (e, room, element) = rw e (answer_goes o k.good w α out l phase room element)
  phase_goes w (reply challenge out) l phase (room, value) = reply_goes o k.good w challenge out l phase room value
  phase_goes w (take_commitments c) l phase long = C.commitments_go o w c l phase long
  phase_goes w (set_alpha α) l phase element = C.alpha_goes o w α l phase element
  phase_goes w (take_middle m) l phase (long, elements) = C.middle_goes o w m l phase long elements
  phase_goes w (set_challenge challenge) l phase value = C.challenge_goes o w challenge l phase value
  phase_goes w (take_reply b r) l phase (e, long, elements) = rw e (C.reply_goes o w r k.good l phase long elements)

  due_goes : (w : World) (c : Call) → Link o w → DueGoes o w c
  due_goes w c l due fitting = phase_goes w c l (at_phase o w c l due) fitting

  -- and one that is not refused has what is asked of it
  fits_each : (w : World) (c : Call) → Link o w → refusal w c ≡ 0 → Unaltered o w.history c → Fitting o c
  unfolding refusal Unaltered Fitting
  fits_each w (commit b lent out) l none e =
      let (long, room, elements) = commit_fits o w lent out l (rw e at none) in
      (e, long, room, elements)
  fits_each w (answer_alpha b α out) l none e = let (room, element) = answer_fits o w α out l (rw e.0 at none) in (e.0, room, element)
  fits_each w (reply challenge out) l none e = reply_fits o w challenge out l none
  fits_each w (take_commitments c) l none e = C.commitments_fit o w c l none
  fits_each w (set_alpha α) l none e = C.alpha_fits o w α l none
  fits_each w (take_middle m) l none e = C.middle_fits o w m l none
  fits_each w (set_challenge challenge) l none e = C.challenge_fits o w challenge l none
  fits_each w (take_reply b r) l none e = let (long, elements) = C.reply_fits o w b r l none in (e.0, long, elements)

  accepts_each : (w : World) (c : Call) → Link o w → (refusal w c ≡ 0 → Unaltered o w.history c) → Accepts o w c
  unfolding refusal Unaltered Accepts
  accepts_each w (commit b lent out) l honest = tt
  accepts_each w (answer_alpha b α out) l honest = tt
  accepts_each w (reply challenge out) l honest = tt
  accepts_each w (take_commitments c) l honest = tt
  accepts_each w (set_alpha α) l honest = tt
  accepts_each w (take_middle m) l honest = tt
  accepts_each w (set_challenge challenge) l honest = tt
  accepts_each w (take_reply b r) l honest =
      λ none.
      let e = honest none in
      let none_refused = rw e.0 at none in
      (rw e.0 (Verdicts.reply_accepted o k w r l none_refused e.1), Verdicts.round_accepted o k w r l none_refused e.1)

  -- ---- the end

  over : (w : World) → CardGoes o w.history.given w.card w.history.card_round → o.rounds ≤ w.history.card_round → w.card ≡ CardCalls.closed_card
  over w (Cd.going p below progress) all = absurd (omega (arith, below, all))
  over w (Cd.over over_all e) all = e

  closed : (w : World) → CarrierState o w.history.asked w.history.taken w.history.judged w.carrier w.history.carrier_round →
      Ca.AllAccepted w.history.judged w.history.carrier_round → w.history.carrier_round ≡ o.rounds → w.carrier ≡ CarrierCalls.closed_carrier Accepted o.rounds
  closed w (Ca.going p below before progress) all full = absurd (omega (arith, below, full))
  closed w (Ca.accepted over_all before e) all full = e
  closed w (Ca.rejected i next below before last e) all full = absurd (Ca.not_both_answers w.history.judged i (all i (omega (arith, next))) last)

  ended : (w : World) → Link o w → Ended o w
  unfolding Ended
  ended w l all = (closed w l.carrier_history.state l.all_accepted all, over w l.card_history.goes (omega (arith, l.behind, all)))

  -- ---- the whole list

  unaltered : (w : World) (c : Call) (cs : List Call) → Honest o w (c ∷ cs) → refusal w c ≡ 0 → Unaltered o w.history c
  unfolding Honest
  unaltered w c cs honest none = honest.0 (omega (arith, none))

  holds : (cs : List Call) (w : World) → Link o w → Honest o w cs → Holds o w cs
  unfolding Honest Holds
  holds [] w l honest = ended w l
  holds (c ∷ cs) w l honest =
      let same = unaltered w c cs honest in
      (ended w l, due_goes w c l, accepts_each w c l same, holds cs (step w c) (step_linked w c l same) honest.1)

  linked_after : (cs : List Call) (w : World) → Link o w → Honest o w cs → Link o (after w cs)
  unfolding Honest after
  linked_after [] w l honest = l
  linked_after (c ∷ cs) w l honest = linked_after cs (step w c) (step_linked w c l (unaltered w c cs honest)) honest.1

-- "It is claimed of the whole list at once": for every list of calls of an honest session, what `Holds` says
pub honest_session : (o : Terms) → CardCalls.open_refusal o.system o.scheme o.rounds o.key o.secret ≡ 0 →
    CarrierCalls.open_refusal o.system o.scheme o.rounds o.key ≡ 0 → (calls : List Call) → Honest o (opened o) calls → Holds o (opened o) calls
honest_session o card_open carrier_open calls honest = let k = opens o card_open in holds o k calls (opened o) (start o k) honest

-- what `Holds` says of each call, at any place of the list
at_each : (o : Terms) (w : World) (before : List Call) (c : Call) (later : List Call) → Holds o w (before ++ c ∷ later) →
    DueGoes o (after w before) c × Accepts o (after w before) c
unfolding Holds after
at_each o w [] c later (now_ended, due, accepts, rest) = (due, accepts)
at_each o w (b ∷ before) c later (now_ended, due, accepts, rest) = at_each o (step w b) before c later rest

-- an honest list is honest up to any call, and that call is unaltered where it is not refused
honest_front : (o : Terms) (w : World) (before : List Call) (c : Call) (later : List Call) → Honest o w (before ++ c ∷ later) →
    Honest o w before × (refusal (after w before) c ≡ 0 → Unaltered o (after w before).history c)
unfolding Honest after
honest_front o w [] c later (same, rest) = (tt, λ none. same (omega (arith, none)))
honest_front o w (b ∷ before) c later (same, rest) = let front = honest_front o (step w b) before c later rest in ((same, front.0), front.1)

module _ (o : Terms) (card_open : CardCalls.open_refusal o.system o.scheme o.rounds o.key o.secret ≡ 0)
    (carrier_open : CarrierCalls.open_refusal o.system o.scheme o.rounds o.key ≡ 0) (before later : List Call) where
  -- in every round: a call made when due, with right lengths, elements and challenge, is not refused
  pub each_due : (c : Call) → Honest o (opened o) (before ++ c ∷ later) → IsDue o (after (opened o) before).history c → Fitting o c →
      refusal (after (opened o) before) c ≡ 0
  each_due c honest = (at_each o (opened o) before c later (honest_session o card_open carrier_open _ honest)).0

  -- and of the calls that are not refused this is asked, and no more
  pub each_fitting : (c : Call) → Honest o (opened o) (before ++ c ∷ later) → refusal (after (opened o) before) c ≡ 0 → Fitting o c
  each_fitting c honest none =
      let k = opens o card_open in
      let front = honest_front o (opened o) before c later honest in
      fits_each o k (after (opened o) before) c (linked_after o k before (opened o) (start o k) front.0) none (front.1 none)

  -- in every round: a reply that is taken is accepted, by the scheme's check
  pub each_reply : (b r : List ℕ) → Honest o (opened o) (before ++ take_reply b r ∷ later) → refusal (after (opened o) before) (take_reply b r) ≡ 0 →
      (CarrierCalls.accepts_reply (after (opened o) before).carrier b r ≡ true) × RoundAccepted o (after (opened o) before).history r
  unfolding Accepts
  each_reply b r honest = (at_each o (opened o) before (take_reply b r) later (honest_session o card_open carrier_open _ honest)).1

-- a challenge is set only while both ends are in the same round: that need not be asked of an honest list
pub same_round : (o : Terms) → CardCalls.open_refusal o.system o.scheme o.rounds o.key o.secret ≡ 0 → (calls : List Call) →
    Honest o (opened o) calls → (challenge : ℕ) → refusal (after (opened o) calls) (set_challenge challenge) ≡ 0 →
    (after (opened o) calls).history.card_round ≡ (after (opened o) calls).history.carrier_round
unfolding refusal
same_round o card_open calls honest challenge none =
    let k = opens o card_open in
    C.challenge_in_round o (after (opened o) calls) challenge (linked_after o k calls (opened o) (start o k) honest) none
