-- The card's session along every list of calls, honest or not: its phase, and what was given. Assumes nothing.
use Prim.Native.Nat.{ℕ, ◌+◌, ◌≤◌, ◌<◌}
use mathlib.Core.Path.{◌≡◌, refl, sym, ap, subst, ◌∙◌}
use mathlib.Core.List.{List}
use mathlib.Core.Logic.{◌⊎◌, inl, inr, ⊎_elim}
use native.Mathlib.Nat.{lt_of_not-le, eq-or-lt_of_le}
use native.Mathlib.Decide.{dec_le}
use native.Mathlib.Omega.{arith}
use borrow.Author.Tests.{lt-ltb, le-ltb}
use Rattle.slices.specs.Slices.{zeros}
use Rattle.field.specs.Vector.{as_vector}
use Rattle.system.specs.System.{n_of, m_of}
use Rattle.scheme.specs.declared.Scheme.{Scheme}
use Rattle.scheme.specs.declared.Scheme.TheVariants.{ThreePass, FivePass}
use Rattle.scheme.specs.Scheme.{has_alpha}
use Rattle.exchange.specs.Messages.{lent_in}
use Rattle.session_state.specs.State.{next_count}
use Rattle.session_state.proofs.States.{count_below}
use Rattle.card_state.specs.declared.session.CardPhase.{CardPhase}
use Rattle.card_state.specs.declared.session.CardPhase.TheVariants.{Commit, AnswerAlpha, Reply}
use Rattle.card_state.specs.declared.session.Card.{Card}
use Rattle.card_state.specs.Card.{phase_number, opened_card, closed_card, no_lent, card_with, behind_commit, kept_e1, committed_card, answered_card, held_lent, next_card, replied_card}
use Rattle.session.specs.Session.{Terms, passes, put, Given, World, card_moves}
use Rattle.session.specs.Histories.{IsLogged}
use Rattle.session.proofs.Logs.{Clear, put_there, put_stays, put_clear, clear_next}
use Rattle.session.proofs.Phases.{same_card_phase}
use Rattle.session.proofs.Schemes.{by_scheme}

pub three_behind : (scheme : Scheme) → scheme ≡ ThreePass → behind_commit scheme ≡ Reply
unfolding behind_commit has_alpha
three_behind scheme three = rw three

pub five_behind : (scheme : Scheme) → scheme ≡ FivePass → behind_commit scheme ≡ AnswerAlpha
unfolding behind_commit has_alpha
five_behind scheme five = rw five

module _ (o : Terms) where
  -- ---- the card's sessions

  abbrev pub open_card : Card
  open_card = opened_card o.system o.scheme o.rounds o.secret

  -- in a round for which nothing is lent yet
  unfoldable pub fresh_card : ℕ → Card
  fresh_card r = card_with open_card Commit r no_lent (zeros 96)

  -- in a round for which this was lent, with this system
  unfoldable pub held_card : List ℕ → CardPhase → ℕ → List ℕ → Card
  held_card b phase r lent =
      card_with open_card phase r (lent_in (n_of b) (m_of b) lent) (kept_e1 (passes o) b (as_vector o.secret) lent)

  pub card_opens : open_card ≡ fresh_card 0
  unfolding fresh_card opened_card card_with no_lent
  card_opens = refl

  pub committed_is : (r : ℕ) (b lent : List ℕ) (phase : CardPhase) → behind_commit (passes o) ≡ phase →
      committed_card (fresh_card r) b lent ≡ held_card b phase r lent
  unfolding committed_card fresh_card held_card card_with opened_card
  committed_is r b lent phase e = ap (λ (p : CardPhase). held_card b p r lent) e

  pub answered_is : (r : ℕ) (b lent : List ℕ) → answered_card (held_card b AnswerAlpha r lent) ≡ held_card b Reply r lent
  unfolding answered_card held_lent held_card card_with opened_card
  answered_is r b lent = refl

  -- the card after its reply: in its next round, or closed
  pub replied_next : (r : ℕ) (b lent : List ℕ) → r + 1 < o.rounds → o.rounds < 256 → replied_card (held_card b Reply r lent) ≡ fresh_card (r + 1)
  unfolding replied_card next_card fresh_card held_card card_with opened_card
  replied_next r b lent more small =
      let count : next_count r ≡ r + 1 = count_below r o.rounds (omega arith) small in
      simp (count, lt-ltb (r + 1) o.rounds more)

  pub replied_last : (r : ℕ) (b lent : List ℕ) → r < o.rounds → o.rounds ≤ r + 1 → o.rounds < 256 → replied_card (held_card b Reply r lent) ≡ closed_card
  unfolding replied_card held_card card_with opened_card
  replied_last r b lent below last small =
      let count : next_count r ≡ r + 1 = count_below r o.rounds below small in
      simp (count, le-ltb (r + 1) o.rounds last)

  -- ---- the call that is due, and what was given

  pub data CardProgress (g : Given) (card : Card) (r : ℕ) : CardPhase → Type 0 where
    commit_due : card ≡ fresh_card r → Clear g.commitments r → Clear g.middles r → CardProgress g card r Commit
    alpha_due : (b lent : List ℕ) → card ≡ held_card b AnswerAlpha r lent → passes o ≡ FivePass → IsLogged (g.commitments r) → Clear g.commitments (r + 1) → Clear g.middles r →
        CardProgress g card r AnswerAlpha
    reply_due : (b lent : List ℕ) → card ≡ held_card b Reply r lent → IsLogged (g.commitments r) → Clear g.commitments (r + 1) → (passes o ≡ ThreePass) ⊎ IsLogged (g.middles r) →
        Clear g.middles (r + 1) → CardProgress g card r Reply

  pub data CardGoes (g : Given) (card : Card) (r : ℕ) : Type 0 where
    going : (p : CardPhase) → r < o.rounds → CardProgress g card r p → CardGoes g card r
    over : r ≡ o.rounds → card ≡ closed_card → CardGoes g card r

  pub record CardHistory (w : World) : Type 0 where
    pub goes : CardGoes w.history.given w.card w.history.card_round
    pub replied : (k : ℕ) → k < w.history.card_round → IsLogged (w.history.given.replies k)
    pub no_replies : Clear w.history.given.replies w.history.card_round

  -- ---- the phase

  pub progress_phase : {g : Given} {card : Card} {r : ℕ} {p : CardPhase} → CardProgress g card r p → card.phase ≡ p
  unfolding fresh_card held_card card_with
  progress_phase (commit_due is c m) = ap (λ (card : Card). card.phase) is
  progress_phase (alpha_due b lent is five given c m) = ap (λ (card : Card). card.phase) is
  progress_phase (reply_due b lent is given c middle m) = ap (λ (card : Card). card.phase) is

  pub progress_open : {g : Given} {card : Card} {r : ℕ} {p : CardPhase} → CardProgress g card r p → phase_number p ≡ 0 → ⊥
  unfolding phase_number
  progress_open (commit_due is c m) none = absurd (omega arith)
  progress_open (alpha_due b lent is five given c m) none = absurd (omega arith)
  progress_open (reply_due b lent is given c middle m) none = absurd (omega arith)

  pub closed_phase : {card : Card} → card ≡ closed_card → phase_number card.phase ≡ 0
  unfolding closed_card phase_number
  closed_phase e = ap (λ (card : Card). phase_number card.phase) e

  -- what is known where a call is due
  pub record Going (g : Given) (card : Card) (r : ℕ) (p : CardPhase) : Type 0 where
    pub below : r < o.rounds
    pub progress : CardProgress g card r p

  pub at_phase : {g : Given} {card : Card} {r : ℕ} → CardGoes g card r → (p : CardPhase) → (phase_number p ≡ 0 → ⊥) →
      phase_number card.phase ≡ phase_number p → Going g card r p
  at_phase {g = g} {card = card} {r = r} (going q below progress) p nonzero e =
      let same = same_card_phase q p nonzero (ap phase_number (sym (progress_phase progress)) ∙ e) in
      record { below = below; progress = subst (CardProgress g card r) same progress }
  at_phase (over all e) p nonzero phase = absurd (nonzero (sym phase ∙ closed_phase e))

  -- ---- commit

  abbrev pub with_commitments : Given → ℕ → List ℕ → Given
  with_commitments g r c = record { commitments = put g.commitments r c; middles = g.middles; replies = g.replies }

  committed : (g : Given) (card : Card) (r : ℕ) (b lent c : List ℕ) → CardProgress g card r Commit →
      (p : CardPhase) × CardProgress (with_commitments g r c) (committed_card card b lent) r p
  committed g card r b lent c (commit_due is no_commitments no_middles) =
      let given : IsLogged (put g.commitments r c r) = (c, put_there g.commitments r c) in
      let no_more = put_clear g.commitments r c no_commitments in
      let next = ap (λ (c : Card). committed_card c b lent) is in
      by_scheme (passes o)
      (λ three. (Reply, reply_due b lent (next ∙ committed_is r b lent Reply (three_behind (passes o) three)) given no_more (inl three) (clear_next _ r no_middles)))
      (λ five. (AnswerAlpha, alpha_due b lent (next ∙ committed_is r b lent AnswerAlpha (five_behind (passes o) five)) five given no_more no_middles))

  pub commit_history : (w : World) (b lent c : List ℕ) → CardHistory w → phase_number w.card.phase ≡ 1 →
      CardHistory (card_moves w (committed_card w.card b lent) w.history.card_round (with_commitments w.history.given w.history.card_round c))
  unfolding phase_number
  commit_history w b lent c x phase =
      let f = at_phase x.goes Commit (λ e. absurd (omega arith)) phase in
      let next = committed w.history.given w.card w.history.card_round b lent c f.progress in
      record { goes = going next.0 f.below next.1; replied = x.replied; no_replies = x.no_replies }

  -- ---- reply to α

  abbrev pub with_middles : Given → ℕ → List ℕ → Given
  with_middles g r l = record { commitments = g.commitments; middles = put g.middles r l; replies = g.replies }

  answered : (g : Given) (card : Card) (r : ℕ) (l : List ℕ) → CardProgress g card r AnswerAlpha → CardProgress (with_middles g r l) (answered_card card) r Reply
  answered g card r l (alpha_due b lent is five given no_more no_middles) =
      reply_due b lent (ap answered_card is ∙ answered_is r b lent) given no_more (inr (l, put_there g.middles r l)) (put_clear g.middles r l no_middles)

  pub answer_history : (w : World) (l : List ℕ) → CardHistory w → phase_number w.card.phase ≡ 2 →
      CardHistory (card_moves w (answered_card w.card) w.history.card_round (with_middles w.history.given w.history.card_round l))
  unfolding phase_number
  answer_history w l x phase =
      let f = at_phase x.goes AnswerAlpha (λ e. absurd (omega arith)) phase in
      record {
        goes = going Reply f.below (answered w.history.given w.card w.history.card_round l f.progress);
        replied = x.replied;
        no_replies = x.no_replies;
      }

  -- ---- reply

  abbrev pub with_replies : Given → ℕ → List ℕ → Given
  with_replies g r l = record { commitments = g.commitments; middles = g.middles; replies = put g.replies r l }

  replied_goes : (g : Given) (card : Card) (r : ℕ) (l : List ℕ) → o.rounds < 256 → r < o.rounds → CardProgress g card r Reply →
      CardGoes (with_replies g r l) (replied_card card) (r + 1)
  replied_goes g card r l small below (reply_due b lent is given no_more middle no_middles) =
      elim (dec_le o.rounds (r + 1)) [
        | yes last ↦ over (omega (arith, below, last)) (ap replied_card is ∙ replied_last r b lent below last small)
        | no more ↦ let next = lt_of_not-le more in going Commit next (commit_due (ap replied_card is ∙ replied_next r b lent next small) no_more no_middles)
      ]

  pub reply_history : (w : World) (l : List ℕ) → o.rounds < 256 → CardHistory w → phase_number w.card.phase ≡ 3 →
      CardHistory (card_moves w (replied_card w.card) (w.history.card_round + 1) (with_replies w.history.given w.history.card_round l))
  unfolding phase_number
  reply_history w l small x phase =
      let r = w.history.card_round in
      let g = w.history.given in
      let f = at_phase x.goes Reply (λ e. absurd (omega arith)) phase in
      record {
        goes = replied_goes g w.card r l small f.below f.progress;
        replied =
            λ k h.
            ⊎_elim (λ (same : k ≡ r). (l, rw same (put_there g.replies r l)))
            (λ (before : k < r). let (y, e) = x.replied k before in (y, put_stays g.replies r l x.no_replies k y e)) (eq-or-lt_of_le (omega arith));
        no_replies = put_clear g.replies r l x.no_replies;
      }

  -- ---- opened

  pub opened_card_lem : (w : World) → 0 < o.rounds → w.card ≡ open_card → w.history.card_round ≡ 0 → Clear w.history.given.commitments 0 →
      Clear w.history.given.middles 0 → Clear w.history.given.replies 0 → CardHistory w
  opened_card_lem w some_rounds is start c m p =
      record {
        goes = rw start (going Commit some_rounds (commit_due (is ∙ card_opens) c m));
        replied = λ k h. absurd (omega (arith, start));
        no_replies = rw start p;
      }
