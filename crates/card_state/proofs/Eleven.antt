-- A call's refusal is by the state first, so it answers 11 exactly where its session is closed. Assumes nothing.
use Prim.Native.Nat.{ℕ}
use mathlib.Core.Path.{◌≡◌, refl}
use mathlib.Core.List.{List}
use lib.Dec.{eqb}
use Rattle.refusal.proofs.Refusals.{unless_most, or_else_most}
use Rattle.system.proofs.SystemLayout.{lent_most}
use Rattle.session_state.proofs.States.{ByState, by_state_eleven}
use Rattle.card_state.specs.declared.session.Card.{Card}
use Rattle.card_state.specs.Card.{phase_number, commit_refusal, alpha_refusal, reply_refusal}

pub commit_by_state : (card : Card) (b lent : List ℕ) (out : ℕ) → ByState (commit_refusal card b lent out) (phase_number card.phase) 1
unfolding commit_refusal
commit_by_state card b lent out = record { rest = _; few = (or_else_most _ _ 9 (lent_most b _ _ _) (or_else_most _ _ 9 (unless_most _ 2 9 tt) (or_else_most _ _ 9 (unless_most _ 2 9 tt) (unless_most _ 3 9 tt)))); is = refl }

pub commit_eleven : (card : Card) (b lent : List ℕ) (out : ℕ) → eqb (commit_refusal card b lent out) 11 ≡ eqb (phase_number card.phase) 0
commit_eleven card b lent out = by_state_eleven _ _ 1 (commit_by_state card b lent out)

pub alpha_by_state : (card : Card) (b : List ℕ) (α out : ℕ) → ByState (alpha_refusal card b α out) (phase_number card.phase) 2
unfolding alpha_refusal
alpha_by_state card b α out = record { rest = _; few = (or_else_most _ _ 9 (lent_most b _ _ _) (or_else_most _ _ 9 (unless_most _ 2 9 tt) (unless_most _ 3 9 tt))); is = refl }

pub alpha_eleven : (card : Card) (b : List ℕ) (α out : ℕ) → eqb (alpha_refusal card b α out) 11 ≡ eqb (phase_number card.phase) 0
alpha_eleven card b α out = by_state_eleven _ _ 2 (alpha_by_state card b α out)

pub reply_by_state : (card : Card) (challenge out : ℕ) → ByState (reply_refusal card challenge out) (phase_number card.phase) 3
unfolding reply_refusal
reply_by_state card challenge out = record { rest = _; few = (or_else_most _ _ 9 (unless_most _ 1 9 tt) (or_else_most _ _ 9 (unless_most _ 2 9 tt) (unless_most _ 4 9 tt))); is = refl }

pub reply_eleven : (card : Card) (challenge out : ℕ) → eqb (reply_refusal card challenge out) 11 ≡ eqb (phase_number card.phase) 0
reply_eleven card challenge out = by_state_eleven _ _ 3 (reply_by_state card challenge out)
