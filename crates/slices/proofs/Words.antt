-- Numbers of four bytes: the number of a word is what was written, and four bytes are the word of their number. Assumes nothing.
use Prim.Native.Nat.{ℕ, ◌+◌, ◌*◌, ◌/◌, ◌%◌, ◌<◌}
use mathlib.Core.Path.{◌≡◌, refl}
use mathlib.Core.List.{List, [], ◌∷◌, ◌++◌}
use native.Mathlib.Omega.{arith}
use lib.ListN.{length}
use Rattle.slices.specs.Slices.{word, number}

pub length-word : (k : ℕ) → length (word k) ≡ 4
unfolding word
length-word k = refl

-- what stands behind is not looked at
pub number-word : (k : ℕ) (rest : List ℕ) → k < 4294967296 → number (word k ++ rest) ≡ k
unfolding word number
number-word k rest below =
    let second : k / 256 / 256 ≡ k / 65536 = omega arith in
    let third : k / 65536 / 256 ≡ k / 16777216 = omega arith in
    let none : k / 16777216 / 256 ≡ 0 = omega arith in
    omega (arith, second, third, none)

pub word-number : (a b c d : ℕ) → a < 256 → b < 256 → c < 256 → d < 256 → word (number (a ∷ b ∷ c ∷ d ∷ [])) ≡ a ∷ b ∷ c ∷ d ∷ []
unfolding word number
word-number a b c d ha hb hc hd =
    let k = a + 256 * b + 65536 * c + 16777216 * d in
    let first : k / 256 ≡ b + 256 * c + 65536 * d = omega arith in
    let second : k / 65536 ≡ c + 256 * d = omega arith in
    let third : k / 16777216 ≡ d = omega arith in
    let e0 : k % 256 ≡ a = omega (arith, first) in
    let e1 : k / 256 % 256 ≡ b = rw first (omega arith) in
    let e2 : k / 65536 % 256 ≡ c = rw second (omega arith) in
    let e3 : k / 16777216 % 256 ≡ d = rw third (omega arith) in
    λ i. e0 i ∷ e1 i ∷ e2 i ∷ e3 i ∷ []
