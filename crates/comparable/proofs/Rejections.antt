-- The first rejection among records in a row. Assumes nothing.
use Prim.Native.Nat.{ℕ, ◌+◌}
use mathlib.Core.Path.{◌≡◌, refl}
use native.Mathlib.Omega.{arith}
use borrow.Author.Tests.{ne_eqb}
use Rattle.comparable.specs.declared.Rejection.{Rejection}
use Rattle.comparable.specs.Comparable.{rejected_in}

-- this record has a rejected round
pub rejected_here : (whose r : ℕ) (later : Rejection) → rejected_in whose (r + 1) later ≡ record { whose = whose; round = r + 1 }
unfolding rejected_in
rejected_here whose r later = simp (ne_eqb (r + 1) 0 (λ zeroed. absurd (omega (arith, zeroed))))

-- it has none
pub rejected_later : (whose : ℕ) (later : Rejection) → rejected_in whose 0 later ≡ later
unfolding rejected_in
rejected_later whose later = refl

pub ruleset rejections = (rejected_here, rejected_later)
