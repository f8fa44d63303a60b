-- No refusal by the state exactly where the call is due, and 11 exactly where the session is closed. Assumes nothing.
use Prim.Native.Nat.{ℕ, ◌+◌, ◌≤◌, ◌<◌}
use mathlib.Core.Path.{◌≡◌, refl, ap, ◌∙◌}
use mathlib.Core.Bool.{Bool, true, false, cond}
use mathlib.Core.Logic.{◌↔◌}
use native.Mathlib.Omega.{arith}
use lib.Dec.{eqb}
use borrow.Author.Tests.{eqb-true, eqb-false, ne_eqb, eq-eqb}
use Rattle.refusal.specs.Refusal.{unless, ◌or_else◌}
use Rattle.refusal.proofs.Refusals.{equal_holds}
use Rattle.session_state.specs.State.{state_refusal, next_count}

pub state_due : (phase due : ℕ) → state_refusal phase due ≡ 0 → phase ≡ due
unfolding state_refusal
state_due phase due none = go (eqb phase 0) refl
  where
    go : (t : Bool) → eqb phase 0 ≡ t → phase ≡ due
    go true e = absurd (omega (arith, simp e at none))
    go false e = equal_holds phase due 10 tt (simp e at none)

pub due_state : (phase due : ℕ) → phase ≡ due → (due ≡ 0 → ⊥) → state_refusal phase due ≡ 0
unfolding state_refusal unless
due_state phase due e some = simp (e, ne_eqb due 0 some, eq-eqb due due refl)

pub count_below : (k n : ℕ) → k < n → n < 256 → next_count k ≡ k + 1
unfolding next_count
count_below k n h small = omega arith

-- "11 a closed session": where no later refusal has that number
pub eleven : (phase due later : ℕ) → later ≤ 9 → eqb (state_refusal phase due or_else later) 11 ≡ eqb phase 0
unfolding state_refusal unless ◌or_else◌
eleven phase due later h = go (eqb phase 0) (eqb phase due)
  where
    go : (closed is_due : Bool) → eqb (cond (eqb (cond closed 11 (cond is_due 0 10)) 0) later (cond closed 11 (cond is_due 0 10))) 11 ≡ closed
    go true is_due = refl
    go false true = ne_eqb later 11 (λ e. omega arith)
    go false false = refl

-- a refusal whose state comes first: no later one has the numbers 10 and 11
pub record ByState (refusal phase due : ℕ) : Type 0 where
  pub rest : ℕ
  pub few : rest ≤ 9
  pub is : refusal ≡ (state_refusal phase due or_else rest)

pub by_state_eleven : (refusal phase due : ℕ) → ByState refusal phase due → eqb refusal 11 ≡ eqb phase 0
by_state_eleven refusal phase due s = ap (λ (k : ℕ). eqb k 11) s.is ∙ eleven phase due s.rest s.few

-- "10 a call that isn't the one due."
pub by_state_ten : (refusal phase due : ℕ) → ByState refusal phase due → (refusal ≡ 10) ↔ ((phase ≡ 0 → ⊥) × (phase ≡ due → ⊥))
unfolding state_refusal unless ◌or_else◌
by_state_ten refusal phase due s = rw s.is (go (eqb phase 0) (eqb phase due) refl refl)
  where
    go : (closed is_due : Bool) → eqb phase 0 ≡ closed → eqb phase due ≡ is_due →
        (cond (eqb (cond closed 11 (cond is_due 0 10)) 0) s.rest (cond closed 11 (cond is_due 0 10)) ≡ 10) ↔ ((phase ≡ 0 → ⊥) × (phase ≡ due → ⊥))
    go true is_due e d = (λ h. absurd (omega arith), λ (open_yet, other). absurd (open_yet (eqb-true phase 0 e)))
    go false true e d = (λ h. absurd (omega (arith, s.few)), λ (open_yet, other). absurd (other (eqb-true phase due d)))
    go false false e d = (λ h. (eqb-false phase 0 e, eqb-false phase due d), λ both. refl)
