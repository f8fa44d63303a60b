-- The carrier's session along every list of calls, honest or not: what it is, by the call that is due, and what was taken and set. Assumes nothing.
use Prim.Native.Nat.{ℕ, ◌+◌, ◌≤◌, ◌<◌}
use mathlib.Core.Path.{◌≡◌, refl, sym, ap, subst, ◌∙◌}
use mathlib.Core.Bool.{Bool, true, false, false≢true}
use mathlib.Core.List.{List, [], ◌∷◌}
use mathlib.Core.Logic.{⊎_elim}
use mathlib.Core.Option.{some}
use native.Mathlib.Nat.{lt_of_not-le, eq-or-lt_of_le}
use native.Mathlib.Decide.{dec_le}
use native.Mathlib.Omega.{arith}
use lib.ListN.{length}
use borrow.Author.Tests.{lt-ltb, le-ltb}
use Rattle.slices.specs.Slices.{◌!◌}
use Rattle.slices.proofs.Tabulate.{tabulate_at}
use Rattle.refusal.proofs.Refusals.{first_zero, later_zero, equal_holds}
use Rattle.field.specs.Vector.{as_vector}
use Rattle.system.specs.System.{n_of, m_of}
use Rattle.scheme.specs.declared.Scheme.{Scheme}
use Rattle.scheme.specs.declared.Scheme.TheVariants.{ThreePass, FivePass}
use Rattle.scheme.specs.Scheme.{has_alpha, commitments_length}
use Rattle.commitment.specs.declared.Domain.{Domain}
use Rattle.exchange.specs.Messages.{openings, accepts}
use Rattle.exchange.proofs.ReadBack.{same_verdict, reads_tabulate}
use Rattle.session_state.specs.State.{next_count}
use Rattle.session_state.specs.declared.Verdict.TheVariants.{Accepted, Rejected}
use Rattle.session_state.proofs.States.{state_due, count_below}
use Rattle.carrier_state.specs.declared.session.CarrierPhase.{CarrierPhase}
use Rattle.carrier_state.specs.declared.session.CarrierPhase.TheVariants.{TakeCommitments, SetAlpha, TakeMiddle, SetChallenge, TakeReply}
use Rattle.carrier_state.specs.declared.session.Carrier.{Carrier}
use Rattle.carrier_state.specs.Carrier.{phase_number, carrier_domain, closed_carrier, carrier_with, held_commitments, held_turn, most_commitments, most_turn, no_turn, opened_carrier, commitments_refusal, behind_commitments, with_commitments, alpha_refusal, with_alpha, middle_refusal, with_middle, challenge_refusal, with_challenge, reply_refusal, accepts_reply, judged_carrier}
use Rattle.session.specs.Session.{Terms, passes, domain_of, Log, put, Asked, Taken, Judgement, History, World, carrier_moves}
use Rattle.session.specs.Histories.{Turn, JudgedByCheck}
use Rattle.session.proofs.Logs.{Clear, Stays, same_message, put_there, put_other, put_stays, put_clear, clear_next}
use Rattle.session.proofs.Phases.{same_carrier_phase}
use Rattle.session.proofs.Schemes.{by_scheme, few_commitments}

-- what stands between commitments and challenge stays
pub turn_within : (scheme : Scheme) (alphas alphas' : Log ℕ) (middles middles' : Log (List ℕ)) (r : ℕ) (l : List ℕ) → Stays alphas alphas' →
    Stays middles middles' → Turn scheme alphas middles r l → Turn scheme alphas' middles' r l
unfolding Turn
turn_within ThreePass alphas alphas' middles middles' r l hα hm e = e
turn_within FivePass alphas alphas' middles middles' r l hα hm (α, k, eα, em, e) = (α, k, hα r α eα, hm r k em, e)

-- nothing in three passes, α and t1 and e1 in five
no_turn_lem : (alphas : Log ℕ) (middles : Log (List ℕ)) (r : ℕ) → Turn ThreePass alphas middles r []
unfolding Turn
no_turn_lem alphas middles r = refl

full_turn : (alphas : Log ℕ) (middles : Log (List ℕ)) (r α : ℕ) (l : List ℕ) → alphas r ≡ some α → middles r ≡ some l → Turn FivePass alphas middles r (α ∷ l)
unfolding Turn
full_turn alphas middles r α l set taken = (α, l, set, taken, refl)

pub three_behind : (scheme : Scheme) → scheme ≡ ThreePass → behind_commitments scheme ≡ SetChallenge
unfolding behind_commitments has_alpha
three_behind scheme three = rw three

pub five_behind : (scheme : Scheme) → scheme ≡ FivePass → behind_commitments scheme ≡ SetAlpha
unfolding behind_commitments has_alpha
five_behind scheme five = rw five

-- ---- what was answered

-- a reply was answered so
abbrev pub Answered : Log Judgement → ℕ → Bool → Type 0
Answered judged k answer = (j : Judgement) × (judged k ≡ some j) × (j.answer ≡ answer)

-- the first r replies were accepted
abbrev pub AllAccepted : Log Judgement → ℕ → Type 0
AllAccepted judged r = (k : ℕ) → k < r → Answered judged k true

pub not_both_answers : (judged : Log Judgement) (k : ℕ) → Answered judged k true → Answered judged k false → ⊥
not_both_answers judged k (x, ex, is_true) (y, ey, is_false) = false≢true (sym is_false ∙ ap (λ (j : Judgement). j.answer) (same_message y x (sym ey ∙ ex)) ∙ is_true)

before_put : (judged : Log Judgement) (r : ℕ) (j : Judgement) → AllAccepted judged r → AllAccepted (put judged r j) r
before_put judged r j all k h = let (x, e, is_true) = all k h in (x, put_other judged r j k (λ same. absurd (omega arith)) ∙ e, is_true)

pub put_accepted : (judged : Log Judgement) (r : ℕ) (j : Judgement) → AllAccepted judged r → j.answer ≡ true → AllAccepted (put judged r j) (r + 1)
put_accepted judged r j all is_true k h =
    ⊎_elim (λ (same : k ≡ r). (j, rw same (put_there judged r j), is_true)) (λ (below : k < r). before_put judged r j all k below) (eq-or-lt_of_le (omega arith))

module _ (o : Terms) where
  -- ---- the carrier's sessions

  abbrev pub open_carrier : Carrier
  open_carrier = opened_carrier o.system o.scheme o.rounds o.key

  unfoldable pub carrier_at : CarrierPhase → ℕ → List ℕ → List ℕ → ℕ → Carrier
  carrier_at phase r commitments turn challenge = carrier_with open_carrier phase r commitments turn challenge

  pub carrier_opens : open_carrier ≡ carrier_at TakeCommitments 0 (held_commitments []) no_turn 0
  unfolding carrier_at carrier_with opened_carrier
  carrier_opens = refl

  pub took_commitments : (r : ℕ) (c : List ℕ) (phase : CarrierPhase) → behind_commitments (passes o) ≡ phase →
      with_commitments (carrier_at TakeCommitments r (held_commitments []) no_turn 0) c ≡ carrier_at phase r (held_commitments c) no_turn 0
  unfolding with_commitments carrier_at carrier_with opened_carrier
  took_commitments r c phase e = ap (λ (p : CarrierPhase). carrier_at p r (held_commitments c) no_turn 0) e

  took_alpha : (r : ℕ) (c m : List ℕ) (α : ℕ) → with_alpha (carrier_at SetAlpha r c m 0) α ≡ carrier_at TakeMiddle r c (held_turn α []) 0
  unfolding with_alpha carrier_at carrier_with opened_carrier
  took_alpha r c m α = refl

  alpha_held : (α : ℕ) → held_turn α [] ! 0 ≡ α
  unfolding held_turn
  alpha_held α = tabulate_at most_turn (λ i. (α ∷ []) ! i) 0 (omega arith)

  took_middle : (r : ℕ) (c : List ℕ) (α : ℕ) (l : List ℕ) →
      with_middle (carrier_at TakeMiddle r c (held_turn α []) 0) l ≡ carrier_at SetChallenge r c (held_turn α l) 0
  unfolding with_middle carrier_at carrier_with opened_carrier
  took_middle r c α l = ap (λ (k : ℕ). carrier_at SetChallenge r c (held_turn k l) 0) (alpha_held α)

  took_challenge : (r : ℕ) (c m : List ℕ) (challenge : ℕ) → with_challenge (carrier_at SetChallenge r c m 0) challenge ≡ carrier_at TakeReply r c m challenge
  unfolding with_challenge carrier_at carrier_with opened_carrier
  took_challenge r c m challenge = refl

  pub judged_next : (r : ℕ) (c m : List ℕ) (challenge : ℕ) → r + 1 < o.rounds → o.rounds < 256 →
      judged_carrier (carrier_at TakeReply r c m challenge) true ≡ carrier_at TakeCommitments (r + 1) (held_commitments []) no_turn 0
  unfolding judged_carrier carrier_at carrier_with opened_carrier
  judged_next r c m challenge more small =
      let count : next_count r ≡ r + 1 = count_below r o.rounds (omega arith) small in
      simp (count, lt-ltb (r + 1) o.rounds more)

  judged_last : (r : ℕ) (c m : List ℕ) (challenge : ℕ) → r < o.rounds → o.rounds ≤ r + 1 → o.rounds < 256 →
      judged_carrier (carrier_at TakeReply r c m challenge) true ≡ closed_carrier Accepted o.rounds
  unfolding judged_carrier carrier_at carrier_with opened_carrier
  judged_last r c m challenge below last small =
      let count : next_count r ≡ r + 1 = count_below r o.rounds below small in
      let all : r + 1 ≡ o.rounds = omega arith in
      simp (count, le-ltb (r + 1) o.rounds last) (ap (closed_carrier Accepted) all)

  judged_rejected : (r : ℕ) (c m : List ℕ) (challenge : ℕ) → judged_carrier (carrier_at TakeReply r c m challenge) false ≡ closed_carrier Rejected r
  unfolding judged_carrier carrier_at carrier_with
  judged_rejected r c m challenge = refl

  -- ---- the call that is due, and what was taken and set

  -- nothing was taken or set from these rounds on
  pub record ClearFrom (a : Asked) (t : Taken) (commitments alphas middles challenges : ℕ) : Type 0 where
    pub no_commitments : Clear t.commitments commitments
    pub no_alphas : Clear a.alphas alphas
    pub no_middles : Clear t.middles middles
    pub no_challenges : Clear a.challenges challenges

  pub record CommitmentsTaken (t : Taken) (r : ℕ) (c : List ℕ) : Type 0 where
    pub taken : t.commitments r ≡ some c
    pub long : length c ≡ commitments_length (passes o)

  -- what the carrier holds between commitments and challenge
  pub data TurnHeld (a : Asked) (t : Taken) (r : ℕ) (turn : List ℕ) : Type 0 where
    none_held : passes o ≡ ThreePass → TurnHeld a t r turn
    turn_held : passes o ≡ FivePass → (α : ℕ) (l : List ℕ) → a.alphas r ≡ some α → t.middles r ≡ some l → length l ≡ n_of o.system + m_of o.system →
        turn ≡ held_turn α l → TurnHeld a t r turn

  pub data Progress (a : Asked) (t : Taken) (carrier : Carrier) (r : ℕ) : CarrierPhase → Type 0 where
    commitments_due : carrier ≡ carrier_at TakeCommitments r (held_commitments []) no_turn 0 → ClearFrom a t r r r r → Progress a t carrier r TakeCommitments
    alpha_due : (c : List ℕ) → passes o ≡ FivePass → CommitmentsTaken t r c → carrier ≡ carrier_at SetAlpha r (held_commitments c) no_turn 0 →
        ClearFrom a t (r + 1) r r r → Progress a t carrier r SetAlpha
    middle_due : (c : List ℕ) (α : ℕ) → passes o ≡ FivePass → CommitmentsTaken t r c → a.alphas r ≡ some α →
        carrier ≡ carrier_at TakeMiddle r (held_commitments c) (held_turn α []) 0 → ClearFrom a t (r + 1) (r + 1) r r → Progress a t carrier r TakeMiddle
    challenge_due : (c m : List ℕ) → CommitmentsTaken t r c → TurnHeld a t r m → carrier ≡ carrier_at SetChallenge r (held_commitments c) m 0 →
        ClearFrom a t (r + 1) (r + 1) (r + 1) r → Progress a t carrier r SetChallenge
    reply_due : (c m : List ℕ) (challenge : ℕ) → CommitmentsTaken t r c → TurnHeld a t r m → a.challenges r ≡ some challenge →
        carrier ≡ carrier_at TakeReply r (held_commitments c) m challenge → ClearFrom a t (r + 1) (r + 1) (r + 1) (r + 1) → Progress a t carrier r TakeReply

  pub data CarrierState (a : Asked) (t : Taken) (j : Log Judgement) (carrier : Carrier) (r : ℕ) : Type 0 where
    going : (p : CarrierPhase) → r < o.rounds → AllAccepted j r → Progress a t carrier r p → CarrierState a t j carrier r
    accepted : r ≡ o.rounds → AllAccepted j r → carrier ≡ closed_carrier Accepted o.rounds → CarrierState a t j carrier r
    rejected : (k : ℕ) → r ≡ k + 1 → k < o.rounds → AllAccepted j k → Answered j k false → carrier ≡ closed_carrier Rejected k → CarrierState a t j carrier r

  pub record CarrierHistory (w : World) : Type 0 where
    pub state : CarrierState w.history.asked w.history.taken w.history.judged w.carrier w.history.carrier_round
    pub checked : (k : ℕ) → k < w.history.carrier_round → JudgedByCheck o w.history k
    pub no_judgements : Clear w.history.judged w.history.carrier_round

  -- ---- the phase

  pub progress_is : {a : Asked} {t : Taken} {carrier : Carrier} {r : ℕ} {p : CarrierPhase} → Progress a t carrier r p →
      (c : List ℕ) × (m : List ℕ) × (challenge : ℕ) × (carrier ≡ carrier_at p r c m challenge)
  progress_is (commitments_due e clear) = (_, _, _, e)
  progress_is (alpha_due c five taken e clear) = (_, _, _, e)
  progress_is (middle_due c α five taken set e clear) = (_, _, _, e)
  progress_is (challenge_due c m taken turn e clear) = (_, _, _, e)
  progress_is (reply_due c m challenge taken turn set e clear) = (_, _, _, e)

  module _ {a : Asked} {t : Taken} {carrier : Carrier} {r : ℕ} {p : CarrierPhase} (progress : Progress a t carrier r p) where
    pub progress_phase : carrier.phase ≡ p
    unfolding carrier_at carrier_with
    progress_phase = ap (λ (c : Carrier). c.phase) (progress_is progress).3

    pub progress_count : carrier.accepted ≡ r
    unfolding carrier_at carrier_with
    progress_count = ap (λ (c : Carrier). c.accepted) (progress_is progress).3

    scheme_kept : carrier.scheme ≡ passes o
    unfolding carrier_at carrier_with opened_carrier
    scheme_kept = ap (λ (c : Carrier). c.scheme) (progress_is progress).3

    sizes_kept : carrier.n + carrier.m ≡ n_of o.system + m_of o.system
    unfolding carrier_at carrier_with opened_carrier
    sizes_kept = ap (λ (c : Carrier). c.n + c.m) (progress_is progress).3

  pub progress_open : {a : Asked} {t : Taken} {carrier : Carrier} {r : ℕ} {p : CarrierPhase} → Progress a t carrier r p → phase_number p ≡ 0 → ⊥
  unfolding phase_number
  progress_open (commitments_due e clear) none = absurd (omega arith)
  progress_open (alpha_due c five taken e clear) none = absurd (omega arith)
  progress_open (middle_due c α five taken set e clear) none = absurd (omega arith)
  progress_open (challenge_due c m taken turn e clear) none = absurd (omega arith)
  progress_open (reply_due c m challenge taken turn set e clear) none = absurd (omega arith)

  pub closed_phase : {carrier : Carrier} (verdict : _) (count : ℕ) → carrier ≡ closed_carrier verdict count → phase_number carrier.phase ≡ 0
  unfolding closed_carrier phase_number
  closed_phase verdict count e = ap (λ (c : Carrier). phase_number c.phase) e

  -- what is known where a call is due
  pub record Going (a : Asked) (t : Taken) (j : Log Judgement) (carrier : Carrier) (r : ℕ) (p : CarrierPhase) : Type 0 where
    pub below : r < o.rounds
    pub all_accepted : AllAccepted j r
    pub progress : Progress a t carrier r p

  pub at_phase : {a : Asked} {t : Taken} {j : Log Judgement} {carrier : Carrier} {r : ℕ} → CarrierState a t j carrier r → (p : CarrierPhase) →
      (phase_number p ≡ 0 → ⊥) → phase_number carrier.phase ≡ phase_number p → Going a t j carrier r p
  at_phase {a = a} {t = t} {carrier = carrier} {r = r} (going q below all progress) p nonzero e =
      let same = same_carrier_phase q p nonzero (ap phase_number (sym (progress_phase progress)) ∙ e) in
      record { below = below; all_accepted = all; progress = subst (Progress a t carrier r) same progress }
  at_phase (accepted over all e) p nonzero phase = absurd (nonzero (sym phase ∙ closed_phase _ _ e))
  at_phase (rejected k over below all last e) p nonzero phase = absurd (nonzero (sym phase ∙ closed_phase _ _ e))

  -- ---- what was taken and set stays

  pub record CarrierStays (old new : History) : Type 0 where
    pub commitments_stay : Stays old.taken.commitments new.taken.commitments
    pub alphas_stay : Stays old.asked.alphas new.asked.alphas
    pub middles_stay : Stays old.taken.middles new.taken.middles
    pub challenges_stay : Stays old.asked.challenges new.asked.challenges
    pub judged_stay : Stays old.judged new.judged

  check_stays : (old new : History) (k : ℕ) → CarrierStays old new → JudgedByCheck o old k → JudgedByCheck o new k
  check_stays old new k s x =
      record {
        commitments = x.commitments;
        turn = x.turn;
        challenge = x.challenge;
        system = x.system;
        reply = x.reply;
        commitments_taken = s.commitments_stay k _ x.commitments_taken;
        turn_taken = turn_within _ _ _ _ _ k _ s.alphas_stay s.middles_stay x.turn_taken;
        challenge_set_is = s.challenges_stay k _ x.challenge_set_is;
        answer = x.answer;
        reply_judged = s.judged_stay k _ x.reply_judged;
        by_check = x.by_check;
      }

  -- the rounds that are over stay judged, whatever is taken and set in this one
  keeps : (w later : World) → CarrierHistory w → CarrierStays w.history later.history → later.history.carrier_round ≡ w.history.carrier_round →
      Clear later.history.judged w.history.carrier_round →
      CarrierState later.history.asked later.history.taken later.history.judged later.carrier later.history.carrier_round → CarrierHistory later
  keeps w later x s same clear state =
      record {
        state = state;
        checked = λ k h. check_stays w.history later.history k s (x.checked k (rw same at h));
        no_judgements = rw same clear;
      }

  -- a call of the card
  pub card_moved : (w later : World) → CarrierHistory w → later.carrier ≡ w.carrier → later.history.carrier_round ≡ w.history.carrier_round →
      later.history.asked ≡ w.history.asked → later.history.taken ≡ w.history.taken → later.history.judged ≡ w.history.judged → CarrierHistory later
  card_moved w later x ec er ea et ej =
      keeps w later x
      (record {
        commitments_stay = λ k y e. rw et e;
        alphas_stay = λ k y e. rw ea e;
        middles_stay = λ k y e. rw et e;
        challenges_stay = λ k y e. rw ea e;
        judged_stay = λ k y e. rw ej e;
      })
      er (rw ej x.no_judgements) (rw (ea, et, ej, ec, er) x.state)

  -- ---- take commitments

  abbrev pub taken_commitments : World → List ℕ → World
  taken_commitments w c =
      let h = w.history in
      carrier_moves w (with_commitments w.carrier c) h.carrier_round h.asked
      (record { commitments = put h.taken.commitments h.carrier_round c; middles = h.taken.middles }) h.judged

  begun : (a : Asked) (t : Taken) (carrier : Carrier) (r : ℕ) (c : List ℕ) → length c ≡ commitments_length (passes o) → Progress a t carrier r TakeCommitments →
      (p : CarrierPhase) × Progress a (record { commitments = put t.commitments r c; middles = t.middles }) (with_commitments carrier c) r p
  begun a t carrier r c long (commitments_due e clear) =
      let is = ap (λ (k : Carrier). with_commitments k c) e in
      let no_more = put_clear t.commitments r c clear.no_commitments in
      let taken : CommitmentsTaken (record { commitments = put t.commitments r c; middles = t.middles }) r c = record { taken = put_there t.commitments r c; long = long } in
      by_scheme (passes o)
      (λ three. (
        SetChallenge,
        challenge_due c no_turn taken (none_held three) (is ∙ took_commitments r c SetChallenge (three_behind (passes o) three))
            (record {
              no_commitments = no_more;
              no_alphas = clear_next _ r clear.no_alphas;
              no_middles = clear_next _ r clear.no_middles;
              no_challenges = clear.no_challenges;
            }),
      ))
      (λ five. (
        SetAlpha,
        alpha_due c five taken (is ∙ took_commitments r c SetAlpha (five_behind (passes o) five))
            (record { no_commitments = no_more; no_alphas = clear.no_alphas; no_middles = clear.no_middles; no_challenges = clear.no_challenges }),
      ))

  cleared : (a : Asked) (t : Taken) (carrier : Carrier) (r : ℕ) → Progress a t carrier r TakeCommitments → Clear t.commitments r
  cleared a t carrier r (commitments_due e clear) = clear.no_commitments

  pub commitments_history : (w : World) (c : List ℕ) → CarrierHistory w → commitments_refusal w.carrier c ≡ 0 → CarrierHistory (taken_commitments w c)
  unfolding commitments_refusal phase_number
  commitments_history w c x none =
      let r = w.history.carrier_round in
      let t = w.history.taken in
      let f = at_phase x.state TakeCommitments (λ e. absurd (omega arith)) (state_due _ 1 (first_zero _ _ none)) in
      let long = equal_holds _ _ 2 tt (later_zero _ _ none) ∙ ap commitments_length (scheme_kept f.progress) in
      let next = begun w.history.asked t w.carrier r c long f.progress in
      keeps w (taken_commitments w c) x
      (record {
        commitments_stay = put_stays t.commitments r c (cleared _ _ _ r f.progress);
        alphas_stay = λ k y e. e;
        middles_stay = λ k y e. e;
        challenges_stay = λ k y e. e;
        judged_stay = λ k y e. e;
      })
      refl x.no_judgements (going next.0 f.below f.all_accepted next.1)

  -- ---- set α

  abbrev pub with_alphas : Asked → ℕ → ℕ → Asked
  with_alphas a r α = record { alphas = put a.alphas r α; challenges = a.challenges }

  abbrev pub alpha_set : World → ℕ → World
  alpha_set w α =
      let h = w.history in
      carrier_moves w (with_alpha w.carrier α) h.carrier_round (with_alphas h.asked h.carrier_round α) h.taken h.judged

  pub no_alpha_yet : (a : Asked) (t : Taken) (carrier : Carrier) (r : ℕ) → Progress a t carrier r SetAlpha → Clear a.alphas r
  no_alpha_yet a t carrier r (alpha_due c five taken e clear) = clear.no_alphas

  with_alpha_lem : (a : Asked) (t : Taken) (carrier : Carrier) (r α : ℕ) → Progress a t carrier r SetAlpha →
      Progress (with_alphas a r α) t (with_alpha carrier α) r TakeMiddle
  with_alpha_lem a t carrier r α (alpha_due c five taken e clear) =
      middle_due c α five taken (put_there a.alphas r α) (ap (λ (k : Carrier). with_alpha k α) e ∙ took_alpha r (held_commitments c) no_turn α)
      (record {
        no_commitments = clear.no_commitments;
        no_alphas = put_clear a.alphas r α clear.no_alphas;
        no_middles = clear.no_middles;
        no_challenges = clear.no_challenges;
      })

  pub alpha_history : (w : World) (α : ℕ) → CarrierHistory w → alpha_refusal w.carrier α ≡ 0 → CarrierHistory (alpha_set w α)
  unfolding alpha_refusal phase_number
  alpha_history w α x none =
      let r = w.history.carrier_round in
      let a = w.history.asked in
      let f = at_phase x.state SetAlpha (λ e. absurd (omega arith)) (state_due _ 2 (first_zero _ _ none)) in
      keeps w (alpha_set w α) x
      (record {
        commitments_stay = λ k y e. e;
        alphas_stay = put_stays a.alphas r α (no_alpha_yet _ _ _ r f.progress);
        middles_stay = λ k y e. e;
        challenges_stay = λ k y e. e;
        judged_stay = λ k y e. e;
      })
      refl x.no_judgements (going TakeMiddle f.below f.all_accepted (with_alpha_lem a _ w.carrier r α f.progress))

  -- ---- take t1 and e1

  abbrev pub middle_taken : World → List ℕ → World
  middle_taken w l =
      let h = w.history in
      carrier_moves w (with_middle w.carrier l) h.carrier_round h.asked
      (record { commitments = h.taken.commitments; middles = put h.taken.middles h.carrier_round l }) h.judged

  no_middle_yet : (a : Asked) (t : Taken) (carrier : Carrier) (r : ℕ) → Progress a t carrier r TakeMiddle → Clear t.middles r
  no_middle_yet a t carrier r (middle_due c α five taken set e clear) = clear.no_middles

  with_middle_is : (a : Asked) (t : Taken) (carrier : Carrier) (r : ℕ) (l : List ℕ) → length l ≡ n_of o.system + m_of o.system →
      Progress a t carrier r TakeMiddle → Progress a (record { commitments = t.commitments; middles = put t.middles r l }) (with_middle carrier l) r SetChallenge
  with_middle_is a t carrier r l long (middle_due c α five taken set e clear) =
      challenge_due c (held_turn α l) (record { taken = taken.taken; long = taken.long })
      (turn_held five α l set (put_there t.middles r l) long refl) (ap (λ (k : Carrier). with_middle k l) e ∙ took_middle r (held_commitments c) α l)
      (record {
        no_commitments = clear.no_commitments;
        no_alphas = clear.no_alphas;
        no_middles = put_clear t.middles r l clear.no_middles;
        no_challenges = clear.no_challenges;
      })

  pub middle_history : (w : World) (l : List ℕ) → CarrierHistory w → middle_refusal w.carrier l ≡ 0 → CarrierHistory (middle_taken w l)
  unfolding middle_refusal phase_number
  middle_history w l x none =
      let r = w.history.carrier_round in
      let t = w.history.taken in
      let f = at_phase x.state TakeMiddle (λ e. absurd (omega arith)) (state_due _ 3 (first_zero _ _ none)) in
      let long = equal_holds _ _ 2 tt (first_zero _ _ (later_zero _ _ none)) ∙ sizes_kept f.progress in
      keeps w (middle_taken w l) x
      (record {
        commitments_stay = λ k y e. e;
        alphas_stay = λ k y e. e;
        middles_stay = put_stays t.middles r l (no_middle_yet _ _ _ r f.progress);
        challenges_stay = λ k y e. e;
        judged_stay = λ k y e. e;
      })
      refl x.no_judgements (going SetChallenge f.below f.all_accepted (with_middle_is _ t w.carrier r l long f.progress))

  -- ---- set challenge

  abbrev pub with_challenges : Asked → ℕ → ℕ → Asked
  with_challenges a r challenge = record { alphas = a.alphas; challenges = put a.challenges r challenge }

  abbrev pub challenge_set : World → ℕ → World
  challenge_set w challenge =
      let h = w.history in
      carrier_moves w (with_challenge w.carrier challenge) h.carrier_round (with_challenges h.asked h.carrier_round challenge) h.taken h.judged

  pub no_challenge_yet : (a : Asked) (t : Taken) (carrier : Carrier) (r : ℕ) → Progress a t carrier r SetChallenge → Clear a.challenges r
  no_challenge_yet a t carrier r (challenge_due c m taken turn e clear) = clear.no_challenges

  still_held : (a : Asked) (t : Taken) (r challenge : ℕ) (m : List ℕ) → TurnHeld a t r m → TurnHeld (with_challenges a r challenge) t r m
  still_held a t r challenge m (none_held three) = none_held three
  still_held a t r challenge m (turn_held five α l set taken long e) = turn_held five α l set taken long e

  with_challenge_lem : (a : Asked) (t : Taken) (carrier : Carrier) (r challenge : ℕ) → Progress a t carrier r SetChallenge →
      Progress (with_challenges a r challenge) t (with_challenge carrier challenge) r TakeReply
  with_challenge_lem a t carrier r challenge (challenge_due c m taken turn e clear) =
      reply_due c m challenge taken (still_held a t r challenge m turn) (put_there a.challenges r challenge)
      (ap (λ (k : Carrier). with_challenge k challenge) e ∙ took_challenge r (held_commitments c) m challenge)
      (record {
        no_commitments = clear.no_commitments;
        no_alphas = clear.no_alphas;
        no_middles = clear.no_middles;
        no_challenges = put_clear a.challenges r challenge clear.no_challenges;
      })

  pub challenge_history : (w : World) (challenge : ℕ) → CarrierHistory w → challenge_refusal w.carrier challenge ≡ 0 → CarrierHistory (challenge_set w challenge)
  unfolding challenge_refusal phase_number
  challenge_history w challenge x none =
      let r = w.history.carrier_round in
      let a = w.history.asked in
      let f = at_phase x.state SetChallenge (λ e. absurd (omega arith)) (state_due _ 4 (first_zero _ _ none)) in
      keeps w (challenge_set w challenge) x
      (record {
        commitments_stay = λ k y e. e;
        alphas_stay = λ k y e. e;
        middles_stay = λ k y e. e;
        challenges_stay = put_stays a.challenges r challenge (no_challenge_yet _ _ _ r f.progress);
        judged_stay = λ k y e. e;
      })
      refl x.no_judgements (going TakeReply f.below f.all_accepted (with_challenge_lem a _ w.carrier r challenge f.progress))

  -- ---- take reply

  -- what an opening that is not refused gives
  pub record CarrierOpens : Type 0 where
    pub some_rounds : 0 < o.rounds
    pub few : o.rounds < 256
    pub small : n_of o.system + m_of o.system ≤ 192

  no_turn_read : (b : List ℕ) (d : Domain) (v c m m' : List ℕ) (challenge : ℕ) (reply : List ℕ) → d.scheme ≡ ThreePass →
      accepts b d v c m challenge reply ≡ accepts b d v c m' challenge reply
  unfolding accepts openings
  no_turn_read b d v c m m' challenge reply three = rw three

  -- the messages of a round whose reply is due, and that its judgement is the scheme's check of them
  pub record Checked (a : Asked) (t : Taken) (carrier : Carrier) (r : ℕ) (b reply : List ℕ) : Type 0 where
    pub commitments : List ℕ
    pub turn : List ℕ
    pub challenge : ℕ
    pub commitments_taken : t.commitments r ≡ some commitments
    pub turn_taken : Turn (passes o) a.alphas t.middles r turn
    pub challenge_set_is : a.challenges r ≡ some challenge
    pub verdict : accepts_reply carrier b reply ≡ accepts b (domain_of o) (as_vector o.key) commitments turn challenge reply

  held_verdict : (phase : CarrierPhase) (r : ℕ) (c m : List ℕ) (challenge : ℕ) (b reply : List ℕ) →
      accepts_reply (carrier_at phase r c m challenge) b reply ≡ accepts b (domain_of o) (as_vector o.key) c m challenge reply
  unfolding accepts_reply carrier_domain carrier_at carrier_with opened_carrier
  held_verdict phase r c m challenge b reply = refl

  held_reads : (α : ℕ) (l : List ℕ) → length (α ∷ l) ≤ most_turn → (i : ℕ) → held_turn α l ! i ≡ (α ∷ l) ! i
  unfolding held_turn
  held_reads α l room = reads_tabulate most_turn (α ∷ l) room

  commitments_read : (c : List ℕ) → length c ≡ commitments_length (passes o) → (i : ℕ) → held_commitments c ! i ≡ c ! i
  unfolding held_commitments
  commitments_read c long = reads_tabulate most_commitments c (omega (arith, long, few_commitments (passes o)))

  module _ (k : CarrierOpens) where
    turn_read : (a : Asked) (t : Taken) (r : ℕ) (c m : List ℕ) (challenge : ℕ) (b reply : List ℕ) → length c ≡ commitments_length (passes o) → TurnHeld a t r m →
        (l : List ℕ) × Turn (passes o) a.alphas t.middles r l ×
        (accepts b (domain_of o) (as_vector o.key) (held_commitments c) m challenge reply ≡ accepts b (domain_of o) (as_vector o.key) c l challenge reply)
    turn_read a t r c m challenge b reply long (none_held three) = (
      [],
      subst (λ (s : Scheme). Turn s a.alphas t.middles r []) (sym three) (no_turn_lem a.alphas t.middles r),
      same_verdict b (domain_of o) (as_vector o.key) (held_commitments c) c m m challenge reply (commitments_read c long) (λ i. refl) ∙
          no_turn_read b (domain_of o) (as_vector o.key) c m [] challenge reply three,
    )
    turn_read a t r c m challenge b reply long (turn_held five α l set taken size e) = (
      α ∷ l,
      subst (λ (s : Scheme). Turn s a.alphas t.middles r (α ∷ l)) (sym five) (full_turn a.alphas t.middles r α l set taken),
      rw e
          (same_verdict b (domain_of o) (as_vector o.key) (held_commitments c) c (held_turn α l) (α ∷ l) challenge reply (commitments_read c long)
          (held_reads α l (omega (arith, k.small)))),
    )

    checks : (a : Asked) (t : Taken) (carrier : Carrier) (r : ℕ) (b reply : List ℕ) → Progress a t carrier r TakeReply → Checked a t carrier r b reply
    checks a t carrier r b reply (reply_due c m challenge taken turn set e clear) =
        let (l, is, same) = turn_read a t r c m challenge b reply taken.long turn in
        record {
          commitments = c;
          turn = l;
          challenge = challenge;
          commitments_taken = taken.taken;
          turn_taken = is;
          challenge_set_is = set;
          verdict = ap (λ (x : Carrier). accepts_reply x b reply) e ∙ held_verdict TakeReply r (held_commitments c) m challenge b reply ∙ same;
        }

    pub reply_checked : (w : World) (b reply : List ℕ) → CarrierHistory w → reply_refusal w.carrier b reply ≡ 0 →
        Checked w.history.asked w.history.taken w.carrier w.history.carrier_round b reply
    unfolding reply_refusal phase_number
    reply_checked w b reply x none =
        checks _ _ _ _ b reply (at_phase x.state TakeReply (λ e. absurd (omega arith)) (state_due _ 5 (first_zero _ _ none))).progress

    abbrev pub judgement_of : World → List ℕ → List ℕ → Judgement
    judgement_of w b reply = record { system = b; reply = reply; answer = accepts_reply w.carrier b reply }

    abbrev pub reply_taken : World → List ℕ → List ℕ → World
    reply_taken w b reply =
        let h = w.history in
        carrier_moves w (judged_carrier w.carrier (accepts_reply w.carrier b reply)) (h.carrier_round + 1) h.asked h.taken
        (put h.judged h.carrier_round (judgement_of w b reply))

    after_reply : (a : Asked) (t : Taken) (j : Log Judgement) (carrier : Carrier) (r : ℕ) (x : Judgement) → Going a t j carrier r TakeReply →
        (answer : Bool) → x.answer ≡ answer → CarrierState a t (put j r x) (judged_carrier carrier answer) (r + 1)
    after_reply a t j carrier r x f answer is = go f.progress answer is
      where
        below : r < o.rounds
        below = f.below

        go : Progress a t carrier r TakeReply → (answer : Bool) → x.answer ≡ answer → CarrierState a t (put j r x) (judged_carrier carrier answer) (r + 1)
        go (reply_due c m challenge taken turn set e clear) false is_false =
            rejected r refl below (before_put j r x f.all_accepted) (x, put_there j r x, is_false)
            (ap (λ (y : Carrier). judged_carrier y false) e ∙ judged_rejected r (held_commitments c) m challenge)
        go (reply_due c m challenge taken turn set e clear) true is_true =
            let all = put_accepted j r x f.all_accepted is_true in
            let is = ap (λ (y : Carrier). judged_carrier y true) e in
            elim (dec_le o.rounds (r + 1)) [
              | yes last ↦ accepted (omega (arith, below, last)) all (is ∙ judged_last r (held_commitments c) m challenge below last k.few)
              | no more ↦
                  let next = lt_of_not-le more in
                  going TakeCommitments next all
                  (commitments_due (is ∙ judged_next r (held_commitments c) m challenge next k.few)
                  (record {
                    no_commitments = clear.no_commitments;
                    no_alphas = clear.no_alphas;
                    no_middles = clear.no_middles;
                    no_challenges = clear.no_challenges;
                  }))
            ]

    pub reply_history : (w : World) (b reply : List ℕ) → CarrierHistory w → reply_refusal w.carrier b reply ≡ 0 → CarrierHistory (reply_taken w b reply)
    unfolding reply_refusal phase_number
    reply_history w b reply x none =
        let r = w.history.carrier_round in
        let j = w.history.judged in
        let y = judgement_of w b reply in
        let f = at_phase x.state TakeReply (λ e. absurd (omega arith)) (state_due _ 5 (first_zero _ _ none)) in
        let seen = checks _ _ _ _ b reply f.progress in
        let stays : CarrierStays w.history (reply_taken w b reply).history =
        record {
          commitments_stay = λ i y e. e;
          alphas_stay = λ i y e. e;
          middles_stay = λ i y e. e;
          challenges_stay = λ i y e. e;
          judged_stay = put_stays j r y x.no_judgements;
        } in
        let last : JudgedByCheck o (reply_taken w b reply).history r =
        record {
          commitments = seen.commitments;
          turn = seen.turn;
          challenge = seen.challenge;
          system = b;
          reply = reply;
          commitments_taken = seen.commitments_taken;
          turn_taken = seen.turn_taken;
          challenge_set_is = seen.challenge_set_is;
          answer = y.answer;
          reply_judged = put_there j r y;
          by_check = seen.verdict;
        } in
        record {
          state = after_reply _ _ j w.carrier r y f y.answer refl;
          checked =
              λ i h.
              ⊎_elim (λ (same : i ≡ r). rw same last) (λ (before : i < r). check_stays w.history (reply_taken w b reply).history i stays (x.checked i before))
              (eq-or-lt_of_le (omega arith));
          no_judgements = put_clear j r y x.no_judgements;
        }

    -- ---- opened

    pub opened_carrier_lem : (w : World) → w.carrier ≡ open_carrier → w.history.carrier_round ≡ 0 → Clear w.history.taken.commitments 0 →
        Clear w.history.asked.alphas 0 → Clear w.history.taken.middles 0 → Clear w.history.asked.challenges 0 → Clear w.history.judged 0 →
        CarrierHistory w
    opened_carrier_lem w is start c α m ch j =
        record {
          state =
              rw start
              (going TakeCommitments k.some_rounds (λ i h. absurd (omega arith))
              (commitments_due (is ∙ carrier_opens) (record { no_commitments = c; no_alphas = α; no_middles = m; no_challenges = ch })));
          checked = λ i h. absurd (omega (arith, start));
          no_judgements = rw start j;
        }
