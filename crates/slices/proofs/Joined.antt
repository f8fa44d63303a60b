-- Lists one behind the other, and the equal pieces of a list. Assumes nothing.
use Prim.Native.Nat.{ℕ, zero, suc, ◌+◌, ◌*◌, ◌≤◌, ◌<◌}
use mathlib.Core.Path.{◌≡◌, refl, sym, ap, ap₂, ◌∙◌}
use mathlib.Core.List.{List, ◌++◌}
use native.Mathlib.Nat.{lt_of_not-le, mul-le-mul_right, zero-mul, suc-mul}
use native.Mathlib.Decide.{dec_le}
use native.Mathlib.Omega.{arith}
use lib.ListN.{length, take, drop, length-append, length-drop}
use lib.Seq.{length-take-le, take_all, take-add, drop_at, take-append-le, drop-append-le}
use Rattle.slices.specs.Slices.{piece, joined}

-- the first n pieces of a list are its front
joined_front : (each n : ℕ) (l : List ℕ) → joined n (λ r. piece each r l) ≡ take (n * each) l
unfolding joined
joined_front each zero l = ap (λ (k : ℕ). take k l) (sym (zero-mul each))
joined_front each (suc n) l =
    ap (λ (s : List ℕ). s ++ take each (drop (n * each) l)) (joined_front each n l) ∙ sym (take-add (n * each) each l) ∙
    ap (λ (k : ℕ). take k l) (sym (suc-mul n each))

-- a list of the right length is its pieces, one behind the other
pub joined-pieces : (each n : ℕ) (l : List ℕ) → length l ≡ n * each → joined n (λ r. piece each r l) ≡ l
joined-pieces each n l long = joined_front each n l ∙ take_all (n * each) l (omega (arith, long))

pub length-joined : (each n : ℕ) (part : ℕ → List ℕ) → ((r : ℕ) → r < n → length (part r) ≡ each) → length (joined n part) ≡ n * each
unfolding joined
length-joined each zero part long = sym (zero-mul each)
length-joined each (suc n) part long =
    length-append (joined n part) (part n) ∙
    ap₂ ◌+◌ (length-joined each n part (λ r h. long r (omega arith))) (long n (omega arith)) ∙ sym (suc-mul n each)

-- piece r of what was joined is part r
pub joined_at : (each n : ℕ) (part : ℕ → List ℕ) → ((r : ℕ) → r < n → length (part r) ≡ each) → (r : ℕ) → r < n → piece each r (joined n part) ≡ part r
unfolding joined
joined_at each zero part long r h = absurd (omega arith)
joined_at each (suc n) part long r h =
    let before = length-joined each n part (λ i b. long i (omega arith)) in
    elim (dec_le n r) [
      | yes last ↦
          let is : r ≡ n = omega arith in
          rw is (ap (take each) (drop_at (joined n part) (part n) (n * each) before) ∙ take_all each (part n) (omega (arith, long n (omega arith))))
      | no earlier ↦
          let below : r < n = lt_of_not-le earlier in
          let room : (r + 1) * each ≤ n * each = mul-le-mul_right each (omega arith) in
          ap (take each) (drop-append-le (r * each) (joined n part) (part n) (omega (arith, before, room))) ∙
          take-append-le each (drop (r * each) (joined n part)) (part n) (rw (length-drop (r * each) (joined n part)) (omega (arith, before, room))) ∙
          joined_at each n part (λ i b. long i (omega arith)) r below
    ]

pub joined_same : (n : ℕ) (part other : ℕ → List ℕ) → ((r : ℕ) → r < n → part r ≡ other r) → joined n part ≡ joined n other
unfolding joined
joined_same zero part other same = refl
joined_same (suc n) part other same = ap₂ (λ (s t : List ℕ). s ++ t) (joined_same n part other (λ r h. same r (omega arith))) (same n (omega arith))

-- a piece has its length
pub piece_long : (each n : ℕ) (l : List ℕ) (r : ℕ) → length l ≡ n * each → r < n → length (piece each r l) ≡ each
piece_long each n l r long below =
    let room : (r + 1) * each ≤ n * each = mul-le-mul_right each (omega arith) in
    length-take-le each (drop (r * each) l) (rw (length-drop (r * each) l) (omega (arith, long, room)))
