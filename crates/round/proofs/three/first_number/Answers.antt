-- By cases on the challenge. Assumes nothing.
use native.Mathlib.Omega.{arith}
use Rattle.round.specs.Openings.{with_two, opening_at}
use Rattle.round.specs.ThreePass.{openings_three}
use Rattle.round.proofs.Clauses.{first_of_c0}
use Rattle.round.proofs.three.first_number.Goals as goal

pub returns-in-0 : goal.returns-in-0
unfolding opening_at openings_three with_two
returns-in-0 c =
    λ b v r. rw c.in-0.is

pub returns-in_default : goal.returns-in_default
returns-in_default c =
    λ b v r. first_of_c0 b v _ r (λ e. omega arith)
