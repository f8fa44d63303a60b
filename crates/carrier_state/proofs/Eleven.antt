-- A call's refusal is by the state first, so it answers 11 exactly where its session is closed. Assumes nothing.
use Prim.Native.Nat.{ℕ}
use mathlib.Core.Path.{◌≡◌, refl}
use mathlib.Core.List.{List}
use lib.Dec.{eqb}
use Rattle.refusal.proofs.Refusals.{unless_most, or_else_most}
use Rattle.system.proofs.SystemLayout.{lent_most}
use Rattle.session_state.proofs.States.{ByState, by_state_eleven}
use Rattle.carrier_state.specs.declared.session.Carrier.{Carrier}
use Rattle.carrier_state.specs.Carrier.{phase_number, commitments_refusal, alpha_refusal, middle_refusal, challenge_refusal, reply_refusal}

pub commitments_by_state : (c : Carrier) (commitments : List ℕ) → ByState (commitments_refusal c commitments) (phase_number c.phase) 1
unfolding commitments_refusal
commitments_by_state c commitments = record { rest = _; few = (unless_most _ 2 9 tt); is = refl }

pub commitments_eleven : (c : Carrier) (commitments : List ℕ) → eqb (commitments_refusal c commitments) 11 ≡ eqb (phase_number c.phase) 0
commitments_eleven c commitments = by_state_eleven _ _ 1 (commitments_by_state c commitments)

pub alpha_by_state : (c : Carrier) (α : ℕ) → ByState (alpha_refusal c α) (phase_number c.phase) 2
unfolding alpha_refusal
alpha_by_state c α = record { rest = _; few = (unless_most _ 3 9 tt); is = refl }

pub alpha_eleven : (c : Carrier) (α : ℕ) → eqb (alpha_refusal c α) 11 ≡ eqb (phase_number c.phase) 0
alpha_eleven c α = by_state_eleven _ _ 2 (alpha_by_state c α)

pub middle_by_state : (c : Carrier) (middle : List ℕ) → ByState (middle_refusal c middle) (phase_number c.phase) 3
unfolding middle_refusal
middle_by_state c middle = record { rest = _; few = (or_else_most _ _ 9 (unless_most _ 2 9 tt) (unless_most _ 3 9 tt)); is = refl }

pub middle_eleven : (c : Carrier) (middle : List ℕ) → eqb (middle_refusal c middle) 11 ≡ eqb (phase_number c.phase) 0
middle_eleven c middle = by_state_eleven _ _ 3 (middle_by_state c middle)

pub challenge_by_state : (c : Carrier) (challenge : ℕ) → ByState (challenge_refusal c challenge) (phase_number c.phase) 4
unfolding challenge_refusal
challenge_by_state c challenge = record { rest = _; few = (unless_most _ 4 9 tt); is = refl }

pub challenge_eleven : (c : Carrier) (challenge : ℕ) → eqb (challenge_refusal c challenge) 11 ≡ eqb (phase_number c.phase) 0
challenge_eleven c challenge = by_state_eleven _ _ 4 (challenge_by_state c challenge)

pub reply_by_state : (c : Carrier) (b reply : List ℕ) → ByState (reply_refusal c b reply) (phase_number c.phase) 5
unfolding reply_refusal
reply_by_state c b reply = record { rest = _; few = (or_else_most _ _ 9 (lent_most b _ _ _) (or_else_most _ _ 9 (unless_most _ 2 9 tt) (unless_most _ 3 9 tt))); is = refl }

pub reply_eleven : (c : Carrier) (b reply : List ℕ) → eqb (reply_refusal c b reply) 11 ≡ eqb (phase_number c.phase) 0
reply_eleven c b reply = by_state_eleven _ _ 5 (reply_by_state c b reply)
