-- What is opened, by what a match knows of the challenge. Assumes nothing.
use Prim.Native.Nat.{ℕ, zero, suc, ◌≤◌}
use mathlib.Core.Path.{◌≡◌, refl}
use mathlib.Core.List.{List, [], ◌∷◌}
use native.Mathlib.Omega.{arith}
use Rattle.round.specs.declared.pieces.Middle.{Middle}
use Rattle.round.specs.declared.pieces.ReplyThree.{ReplyThree}
use Rattle.round.specs.declared.pieces.ReplyFive.{ReplyFive}
use Rattle.round.specs.Openings.{with_two, opening_at}
use Rattle.round.specs.ThreePass.{openings_three}
use Rattle.round.specs.FivePass.{openings_five}

-- neither 0 nor 1: the last clause
pub three_last : (b v : List ℕ) (challenge : ℕ) (r : ReplyThree) → (challenge ≡ 0 → ⊥) → (challenge ≡ 1 → ⊥) →
    openings_three b v challenge r ≡ openings_three b v 2 r
unfolding openings_three
three_last b v zero r not_0 not_1 = absurd (not_0 refl)
three_last b v (suc zero) r not_0 not_1 = absurd (not_1 refl)
three_last b v (suc (suc k)) r not_0 not_1 = refl

-- not 0: the first opening is of c0
pub first_of_c0 : (b v : List ℕ) (challenge : ℕ) (r : ReplyThree) → (challenge ≡ 0 → ⊥) → 0 ≡ (opening_at (openings_three b v challenge r) 0).k
unfolding openings_three opening_at with_two
first_of_c0 b v zero r not_0 = absurd (not_0 refl)
first_of_c0 b v (suc zero) r not_0 = refl
first_of_c0 b v (suc (suc k)) r not_0 = refl

-- 0 or 1: the second opening is of c2
pub second_of_c2 : (b v : List ℕ) (challenge : ℕ) (r : ReplyThree) → challenge ≤ 1 →
    opening_at (openings_three b v challenge r) 1 ≡ with_two b 2 r.second r.y r.z
unfolding openings_three opening_at
second_of_c2 b v zero r below = refl
second_of_c2 b v (suc zero) r below = refl
second_of_c2 b v (suc (suc k)) r below = absurd (omega arith)

-- two openings, whatever the challenge
pub three_are_two : (b v : List ℕ) (challenge : ℕ) (r : ReplyThree) →
    let os = openings_three b v challenge r in
    os ≡ opening_at os 0 ∷ opening_at os 1 ∷ []
unfolding openings_three opening_at
three_are_two b v zero r = refl
three_are_two b v (suc zero) r = refl
three_are_two b v (suc (suc k)) r = refl

-- not 0: the second clause
pub five_last : (b : List ℕ) (α : ℕ) (v : List ℕ) (sent : Middle) (challenge : ℕ) (r : ReplyFive) → (challenge ≡ 0 → ⊥) →
    openings_five b α v sent challenge r ≡ openings_five b α v sent 1 r
unfolding openings_five
five_last b α v sent zero r not_0 = absurd (not_0 refl)
five_last b α v sent (suc k) r not_0 = refl

-- one opening
pub five_is_one : (b : List ℕ) (α : ℕ) (v : List ℕ) (sent : Middle) (challenge : ℕ) (r : ReplyFive) →
    let os = openings_five b α v sent challenge r in
    os ≡ opening_at os 0 ∷ []
unfolding openings_five opening_at
five_is_one b α v sent zero r = refl
five_is_one b α v sent (suc k) r = refl
