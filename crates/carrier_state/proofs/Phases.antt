-- What the carrier's definitions say of phases, counts and closed sessions. Assumes nothing.
use Prim.Native.Nat.{ℕ, ◌≤◌}
use mathlib.Core.Path.{◌≡◌, refl}
use mathlib.Core.Bool.{Bool, true, false, cond, ◌&&◌}
use mathlib.Core.List.{List, ◌∷◌, ◌++◌}
use native.Mathlib.Omega.{arith}
use lib.Dec.{ltb}
use borrow.Author.Tests.{le-ltb}
use Rattle.slices.specs.Slices.{tabulate, zeros}
use Rattle.scheme.specs.declared.Scheme.TheVariants.{ThreePass}
use Rattle.scheme.specs.Scheme.{has_alpha}
use Rattle.session_state.specs.declared.Verdict.{Verdict}
use Rattle.session_state.specs.declared.Verdict.TheVariants.{Accepted, Rejected}
use Rattle.session_state.specs.State.{next_count}
use Rattle.carrier_state.specs.declared.session.CarrierPhase.TheVariants.{SetAlpha, SetChallenge, Closed}
use Rattle.carrier_state.specs.declared.session.Carrier.{Carrier}
use Rattle.carrier_state.specs.Carrier.{phase_number, held_commitments, no_turn, closed_carrier, carrier_with, opened_carrier, behind_commitments, with_commitments, with_alpha, with_middle, with_challenge, judged_carrier}

-- ---- only a closing or a refused opening closes a session

-- some call is due
abbrev pub Open : Carrier → Type 0
Open c = phase_number c.phase ≡ 0 → ⊥

pub opened_open : (b : List ℕ) (scheme rounds : ℕ) (v : List ℕ) → Open (opened_carrier b scheme rounds v)
unfolding phase_number opened_carrier
opened_open b scheme rounds v closed = omega arith

pub commitments_open : (c : Carrier) (commitments : List ℕ) → Open (with_commitments c commitments)
unfolding phase_number with_commitments behind_commitments carrier_with
commitments_open c commitments = go (has_alpha c.scheme)
  where
    go : (t : Bool) → phase_number (cond t SetAlpha SetChallenge) ≡ 0 → ⊥
    go true closed = omega arith
    go false closed = omega arith

pub alpha_open : (c : Carrier) (α : ℕ) → Open (with_alpha c α)
unfolding phase_number with_alpha carrier_with
alpha_open c α closed = omega arith

pub middle_open : (c : Carrier) (middle : List ℕ) → Open (with_middle c middle)
unfolding phase_number with_middle carrier_with
middle_open c middle closed = omega arith

pub challenge_open : (c : Carrier) (challenge : ℕ) → Open (with_challenge c challenge)
unfolding phase_number with_challenge carrier_with
challenge_open c challenge closed = omega arith

-- ---- "A rejected round closes the session as rejected; the N-th accepted round closes it as accepted."

-- after a judgement the next round's commitments are due, or the session is closed
pub judged_phase : (c : Carrier) (accepted : Bool) → phase_number (judged_carrier c accepted).phase ≡ cond (accepted && ltb (next_count c.accepted) c.rounds) 1 0
unfolding phase_number judged_carrier carrier_with closed_carrier
judged_phase c false = refl
judged_phase c true = go (ltb (next_count c.accepted) c.rounds) refl
  where
    go : (more : Bool) → ltb (next_count c.accepted) c.rounds ≡ more → phase_number (judged_carrier c true).phase ≡ cond (ltb (next_count c.accepted) c.rounds) 1 0
    go true e = simp e
    go false e = simp e

pub rejected_closes : (c : Carrier) → judged_carrier c false ≡ closed_carrier Rejected c.accepted
unfolding judged_carrier
rejected_closes c = refl

pub last_closes : (c : Carrier) → c.rounds ≤ next_count c.accepted → judged_carrier c true ≡ closed_carrier Accepted (next_count c.accepted)
unfolding judged_carrier
last_closes c last = rw (le-ltb _ _ last)

-- ---- the count of accepted rounds

pub rejected_count : (c : Carrier) → (judged_carrier c false).accepted ≡ c.accepted
unfolding judged_carrier closed_carrier
rejected_count c = refl

pub accepted_count_lem : (c : Carrier) → (judged_carrier c true).accepted ≡ next_count c.accepted
unfolding judged_carrier carrier_with closed_carrier
accepted_count_lem c = go (ltb (next_count c.accepted) c.rounds) refl
  where
    go : (more : Bool) → ltb (next_count c.accepted) c.rounds ≡ more → (judged_carrier c true).accepted ≡ next_count c.accepted
    go true e = simp e
    go false e = simp e

-- no other call changes it
pub count_kept : (c : Carrier) (commitments middle : List ℕ) (α challenge : ℕ) →
    ((with_commitments c commitments).accepted ≡ c.accepted) × ((with_alpha c α).accepted ≡ c.accepted) ×
    ((with_middle c middle).accepted ≡ c.accepted) × ((with_challenge c challenge).accepted ≡ c.accepted)
unfolding carrier_with with_commitments with_alpha with_middle with_challenge
count_kept c commitments middle α challenge = (refl, refl, refl, refl)

-- ---- "The closed session keeps the verdict and the count of accepted rounds. Its other numbers are zero."

pub closed_keeps : (verdict : Verdict) (count : ℕ) → ((closed_carrier verdict count).phase ≡ Closed verdict) × ((closed_carrier verdict count).accepted ≡ count)
unfolding closed_carrier
closed_keeps verdict count = (refl, refl)

-- all numbers of a session but the count
abbrev pub other_numbers : Carrier → List ℕ
other_numbers c = c.q ∷ c.n ∷ c.m ∷ c.rounds ∷ c.challenge ∷ (c.v ++ c.commitments ++ c.turn)

-- the scheme, which is no number, is the first
pub closed_zero : (verdict : Verdict) (count : ℕ) → (other_numbers (closed_carrier verdict count) ≡ zeros 390) × ((closed_carrier verdict count).scheme ≡ ThreePass)
unfolding closed_carrier held_commitments no_turn tabulate zeros
closed_zero verdict count = (refl, refl)
