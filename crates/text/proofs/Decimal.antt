-- A number below 10,000 is read back from its digits, of which the first is no zero. Assumes nothing.
use Prim.Native.Nat.{ℕ, ◌+◌, ◌-◌, ◌*◌, ◌/◌, ◌%◌, ◌≤◌, ◌<◌}
use mathlib.Core.Path.{◌≡◌, refl, ap, ◌∙◌}
use mathlib.Core.Bool.{Bool, cond}
use mathlib.Core.Option.{some, none}
use mathlib.Core.List.{List, [], ◌∷◌}
use native.Mathlib.Decide.{dec_lt}
use native.Mathlib.Omega.{arith}
use lib.Dec.{leb}
use lib.ListN.{length, take, drop}
use borrow.Author.Tests.{lt-ltb, le-ltb, le-leb}
use Rattle.slices.proofs.Booleans.{and_both}
use Rattle.slices.specs.Slices.{◌!◌}
use Rattle.text.specs.Text.{last_digit, decimal}
use Rattle.text.specs.Reading.{number_behind, number_of}

-- by the number of digits
pub by_digits : (P : List ℕ → Type 0) (k : ℕ) → (k < 10 → P (last_digit k ∷ [])) → (10 ≤ k → k < 100 → P (last_digit (k / 10) ∷ last_digit k ∷ [])) →
    (100 ≤ k → k < 1000 → P (last_digit (k / 100) ∷ last_digit (k / 10) ∷ last_digit k ∷ [])) →
    (1000 ≤ k → P (last_digit (k / 1000) ∷ last_digit (k / 100) ∷ last_digit (k / 10) ∷ last_digit k ∷ [])) → P (decimal k)
unfolding decimal
by_digits P k one two three four =
    elim (dec_lt k 10) [
      | yes h ↦ simp (lt-ltb k 10 h) (one h)
      | no more ↦
          elim (dec_lt k 100) [
            | yes h ↦ simp (le-ltb k 10 (omega arith), lt-ltb k 100 h) (two (omega arith) h)
            | no most ↦
                elim (dec_lt k 1000) [
                  | yes h ↦ simp (le-ltb k 10 (omega arith), le-ltb k 100 (omega arith), lt-ltb k 1000 h) (three (omega arith) h)
                  | no h ↦ simp (le-ltb k 10 (omega arith), le-ltb k 100 (omega arith), le-ltb k 1000 (omega arith)) (four (omega arith))
                ]
          ]
    ]

-- the digits are read
number_is : (j k : ℕ) → j ≡ k → number_behind j [] ≡ some k
unfolding number_behind
number_is j k e = ap some e

-- a digit more
behind_digit : (j k : ℕ) (l : List ℕ) → number_behind j (last_digit k ∷ l) ≡ number_behind (10 * j + k % 10) l
unfolding number_behind last_digit
behind_digit j k l =
    ap (λ (t : Bool). cond t (number_behind (10 * j + (48 + k % 10 - 48)) l) none)
    (and_both (leb 48 (48 + k % 10)) (leb (48 + k % 10) 57) (le-leb 48 (48 + k % 10) (omega arith)) (le-leb (48 + k % 10) 57 (omega arith))) ∙
    ap (λ (d : ℕ). number_behind (10 * j + d) l) (omega arith)

pub read_decimal : (k : ℕ) → k < 10000 → number_of (decimal k) ≡ some k
unfolding number_of
read_decimal k h =
    let thousands : k / 1000 % 10 ≡ k / 1000 = omega arith in
    by_digits (λ l. number_of l ≡ some k) k (λ one. behind_digit 0 k [] ∙ number_is _ k (omega arith))
    (λ more two. behind_digit 0 (k / 10) _ ∙ behind_digit _ k [] ∙ number_is _ k (omega arith))
    (λ more three. behind_digit 0 (k / 100) _ ∙ behind_digit _ (k / 10) _ ∙ behind_digit _ k [] ∙ number_is _ k (omega arith))
    (λ four. behind_digit 0 (k / 1000) _ ∙ behind_digit _ (k / 100) _ ∙ behind_digit _ (k / 10) _ ∙ behind_digit _ k [] ∙ number_is _ k (omega arith))

pub decimal_first : (k : ℕ) → 0 < k → k < 10000 → 48 < decimal k ! 0
unfolding last_digit
decimal_first k positive h =
    by_digits (λ l. 48 < l ! 0) k (λ one. omega arith) (λ more two. omega arith) (λ more three. omega arith) (λ four. omega arith)

pub decimal_digit : (k : ℕ) → decimal k ! 0 ≤ 57
unfolding last_digit
decimal_digit k = by_digits (λ l. l ! 0 ≤ 57) k (λ one. omega arith) (λ more two. omega arith) (λ more three. omega arith) (λ four. omega arith)

-- at most three digits below 1000, and four in all
pub decimal_short : (k : ℕ) → k < 1000 → length (decimal k) ≤ 3
decimal_short k h = by_digits (λ l. length l ≤ 3) k (λ one. omega arith) (λ more two. omega arith) (λ more three. omega arith) (λ four. absurd (omega arith))

pub decimal_long : (k : ℕ) → length (decimal k) ≤ 4
decimal_long k = by_digits (λ l. length l ≤ 4) k (λ one. omega arith) (λ more two. omega arith) (λ more three. omega arith) (λ four. omega arith)

-- the last of four digits
pub decimal_last : (k : ℕ) →
    take (length (decimal k)) (drop (4 - length (decimal k)) (last_digit (k / 1000) ∷ last_digit (k / 100) ∷ last_digit (k / 10) ∷ last_digit k ∷ [])) ≡ decimal k
decimal_last k =
    by_digits (λ l. take (length l) (drop (4 - length l) (last_digit (k / 1000) ∷ last_digit (k / 100) ∷ last_digit (k / 10) ∷ last_digit k ∷ [])) ≡ l) k
    (λ one. refl) (λ more two. refl) (λ more three. refl) (λ four. refl)
