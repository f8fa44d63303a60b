-- By cases on the scheme, and what the two have in common. Assumes nothing.
use Prim.Native.Nat.{ℕ, ◌+◌, ◌≤◌, ◌<◌}
use mathlib.Core.Path.{◌≡◌, refl, sym, ap, ◌∙◌}
use mathlib.Core.Bool.{true, false≢true}
use native.Mathlib.Omega.{arith}
use Rattle.scheme.specs.declared.Scheme.{Scheme}
use Rattle.scheme.specs.declared.Scheme.TheVariants.{ThreePass, FivePass}
use Rattle.scheme.specs.Scheme.{challenges, commitment_count, has_alpha, drawn_length, commitments_length}

pub by_scheme : {P : Type 0} (scheme : Scheme) → (scheme ≡ ThreePass → P) → (scheme ≡ FivePass → P) → P
by_scheme ThreePass three five = three refl
by_scheme FivePass three five = five refl

-- no scheme has three passes and five
pub not_both_schemes : (scheme : Scheme) → scheme ≡ ThreePass → scheme ≡ FivePass → ⊥
unfolding has_alpha
not_both_schemes scheme three five = false≢true (ap has_alpha (sym three ∙ five))

pub five_has_alpha : (scheme : Scheme) → scheme ≡ FivePass → has_alpha scheme ≡ true
unfolding has_alpha
five_has_alpha scheme five = ap has_alpha five

-- ---- challenges

pub some_challenge : (scheme : Scheme) → 0 < challenges scheme
unfolding challenges
some_challenge ThreePass = omega arith
some_challenge FivePass = omega arith

pub three_challenges : (scheme : Scheme) (challenge : ℕ) → scheme ≡ ThreePass → challenge < challenges scheme → challenge ≤ 2
unfolding challenges
three_challenges scheme challenge three h = omega (arith, rw three at h)

pub five_challenges : (scheme : Scheme) (challenge : ℕ) → scheme ≡ FivePass → challenge < challenges scheme → challenge ≤ 1
unfolding challenges
five_challenges scheme challenge five h = omega (arith, rw five at h)

-- ---- lengths

pub few_commitments : (scheme : Scheme) → commitments_length scheme ≤ 96
unfolding commitments_length commitment_count
few_commitments ThreePass = omega arith
few_commitments FivePass = omega arith

-- both draw r0, t0 and e0
pub drawn_is : (scheme : Scheme) (n m : ℕ) → drawn_length scheme n m ≡ n + n + m
unfolding drawn_length
drawn_is ThreePass n m = refl
drawn_is FivePass n m = refl
