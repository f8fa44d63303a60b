-- A card's session is closed only by its last reply or by a refused opening, and a closed one is zero. Assumes nothing.
use Prim.Native.Nat.{ℕ, ◌≤◌, ◌<◌}
use mathlib.Core.Path.{◌≡◌, refl}
use mathlib.Core.Bool.{Bool, true, false, cond}
use mathlib.Core.List.{List, ◌++◌, ◌∷◌, []}
use native.Mathlib.Omega.{arith}
use lib.Dec.{ltb}
use borrow.Author.Tests.{lt-ltb, le-ltb}
use Rattle.slices.specs.Slices.{zeros}
use Rattle.scheme.specs.declared.Scheme.TheVariants.{ThreePass}
use Rattle.scheme.specs.Scheme.{has_alpha}
use Rattle.session_state.specs.State.{next_count}
use Rattle.card_state.specs.declared.session.CardPhase.TheVariants.{AnswerAlpha, Reply}
use Rattle.card_state.specs.declared.session.Card.{Card}
use Rattle.card_state.specs.Card.{phase_number, no_rhos, no_lent, closed_card, card_with, opened_card, behind_commit, committed_card, answered_card, next_card, replied_card}

-- the session is not closed
abbrev pub Open : Card → Type 0
Open card = phase_number card.phase ≡ 0 → ⊥

pub opened_open : (b : List ℕ) (scheme rounds : ℕ) (s : List ℕ) → Open (opened_card b scheme rounds s)
unfolding opened_card phase_number
opened_open b scheme rounds s e = absurd (omega arith)

pub committed_open : (card : Card) (b lent : List ℕ) → Open (committed_card card b lent)
unfolding committed_card card_with behind_commit phase_number
committed_open card b lent = go (has_alpha card.scheme)
  where
    go : (t : Bool) → phase_number (cond t AnswerAlpha Reply) ≡ 0 → ⊥
    go true e = absurd (omega arith)
    go false e = absurd (omega arith)

pub answered_open : (card : Card) → Open (answered_card card)
unfolding answered_card card_with phase_number
answered_open card e = absurd (omega arith)

-- a reply before the last leaves it open, and the last closes it
pub replied_open : (card : Card) → next_count card.round < card.rounds → Open (replied_card card)
unfolding replied_card next_card card_with phase_number
replied_open card more e = absurd (omega (arith, simp (lt-ltb (next_count card.round) card.rounds more) at e))

pub last_closes : (card : Card) → card.rounds ≤ next_count card.round → replied_card card ≡ closed_card
unfolding replied_card
last_closes card last = simp (le-ltb (next_count card.round) card.rounds last)

-- every number of a card, one behind the other
unfoldable pub numbers : Card → List ℕ
numbers card =
    (phase_number card.phase ∷ card.q ∷ card.n ∷ card.m ∷ card.rounds ∷ card.round ∷ []) ++ card.s ++ card.r0 ++ card.t0 ++ card.e0 ++ card.e1 ++
    card.rhos.rho0 ++ card.rhos.rho1 ++ card.rhos.rho2

-- "every number in it is zero", and the scheme, which is no number, is the first
pub closed_zero : (numbers closed_card ≡ zeros 582) × (closed_card.scheme ≡ ThreePass)
unfolding numbers closed_card no_rhos phase_number zeros
closed_zero = (refl, refl)

-- what is held for a round, one behind the other: its vectors and ρ
unfoldable pub round_numbers : Card → List ℕ
round_numbers card = card.r0 ++ card.t0 ++ card.e0 ++ card.e1 ++ card.rhos.rho0 ++ card.rhos.rho1 ++ card.rhos.rho2

-- "A reply zeroes that round's vectors and ρ.", the last reply too
pub replied_zero : (card : Card) → round_numbers (replied_card card) ≡ zeros 480
unfolding round_numbers replied_card next_card card_with no_lent no_rhos closed_card zeros
replied_zero card = go (ltb (next_count card.round) card.rounds)
  where
    go : (more : Bool) → round_numbers (cond more (next_card card) closed_card) ≡ zeros 480
    go true = refl
    go false = refl
