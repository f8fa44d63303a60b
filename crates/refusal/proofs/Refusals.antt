-- What a chain of refusals tells where it comes to 0, and what it is where a test decides. Assumes nothing.
use Prim.Native.Nat.{ℕ, zero, suc, ◌+◌, ◌≤◌, ◌<◌}
use mathlib.Core.Path.{◌≡◌, refl, ap₂}
use mathlib.Core.Bool.{Bool, true, false, cond}
use mathlib.Core.Logic.{⊎_elim}
use native.Mathlib.Nat.{not-suc-le-zero, eq-or-lt_of_le, le_of_suc-le-suc, le_refl}
use native.Mathlib.Numerals.{add-one}
use native.Mathlib.Omega.{arith}
use lib.Dec.{T, eqb, ltb, leb, leb→le}
use borrow.Author.Tests.{eqb-true, ne_eqb}
use Rattle.refusal.specs.Refusal.{unless, ◌or_else◌, first_of, kept}

-- no refusal: none of the two
pub first_zero : (a b : ℕ) → (a or_else b) ≡ 0 → a ≡ 0
unfolding ◌or_else◌
first_zero a b h = go (eqb a 0) refl
  where
    go : (t : Bool) → eqb a 0 ≡ t → a ≡ 0
    go true e = eqb-true a 0 e
    go false e = simp e at h

pub later_zero : (a b : ℕ) → (a or_else b) ≡ 0 → b ≡ 0
unfolding ◌or_else◌
later_zero a b h = rw (first_zero a b h) at h

-- no refusal: the test holds
pub test_holds : (t : Bool) (k : ℕ) → T (ltb 0 k) → unless t k ≡ 0 → t ≡ true
unfolding unless
test_holds true k positive h = refl
test_holds false k positive h = absurd (rw h at positive)

pub kept_accepted : {A : Type 0} (r : ℕ) (old new : A) → r ≡ 0 → kept r old new ≡ new
unfolding kept
kept_accepted r old new h = rw h

pub kept_refused : {A : Type 0} (r : ℕ) (old new : A) → (r ≡ 0 → ⊥) → kept r old new ≡ old
unfolding kept
kept_refused r old new h = go (eqb r 0) refl
  where
    go : (t : Bool) → eqb r 0 ≡ t → cond (eqb r 0) new old ≡ old
    go true e = absurd (h (eqb-true r 0 e))
    go false e = rw e

-- no refusal: the two numbers are equal
pub equal_holds : (a b k : ℕ) → T (ltb 0 k) → unless (eqb a b) k ≡ 0 → a ≡ b
equal_holds a b k positive h = eqb-true a b (test_holds (eqb a b) k positive h)

-- no refusal of the two: none
pub both_zero : (a b : ℕ) → a ≡ 0 → b ≡ 0 → (a or_else b) ≡ 0
unfolding ◌or_else◌
both_zero a b ha hb = rw (ha, hb)

pub unless_holds : (t : Bool) (k : ℕ) → t ≡ true → unless t k ≡ 0
unfolding unless
unless_holds t k h = rw h

-- ---- the first refusal over an index

pub first_of_zero : (refusal : ℕ → ℕ) → 0 ≡ first_of 0 refusal
unfolding first_of
first_of_zero refusal = refl

pub first_of_step : (refusal : ℕ → ℕ) (i x y : ℕ) → x ≡ first_of i refusal → y ≡ refusal i → (x or_else y) ≡ first_of (i + 1) refusal
unfolding first_of
first_of_step refusal i x y ex ey = rw (add-one) (ap₂ ◌or_else◌ ex ey)

-- none is refused exactly where none of them is
pub first_of_each : (n : ℕ) (refusal : ℕ → ℕ) → first_of n refusal ≡ 0 → (i : ℕ) → i < n → refusal i ≡ 0
unfolding first_of
first_of_each zero refusal e i h = absurd (not-suc-le-zero h)
first_of_each (suc n) refusal e i h =
    ⊎_elim (λ (same : i ≡ n). rw same (later_zero (first_of n refusal) (refusal n) e))
    (λ (below : i < n). first_of_each n refusal (first_zero (first_of n refusal) (refusal n) e) i below) (eq-or-lt_of_le (le_of_suc-le-suc h))

pub first_of_none : (n : ℕ) (refusal : ℕ → ℕ) → ((i : ℕ) → i < n → refusal i ≡ 0) → first_of n refusal ≡ 0
unfolding first_of
first_of_none zero refusal each = refl
first_of_none (suc n) refusal each = both_zero (first_of n refusal) (refusal n) (first_of_none n refusal (λ i h. each i (omega arith))) (each n (le_refl _))

-- a chain may be put together in parts
pub or_else_assoc : (a b c : ℕ) → ((a or_else b) or_else c) ≡ (a or_else b or_else c)
unfolding ◌or_else◌
or_else_assoc a b c = go (eqb a 0) refl
  where
    go : (t : Bool) → eqb a 0 ≡ t → cond (eqb (cond (eqb a 0) b a) 0) c (cond (eqb a 0) b a) ≡ cond (eqb a 0) (cond (eqb b 0) c b) a
    go true e = rw e
    go false e = simp e

-- the first decides where it refuses, else the later
pub first_decides : (a b : ℕ) → (a ≡ 0 → ⊥) → (a or_else b) ≡ a
unfolding ◌or_else◌
first_decides a b some = simp (ne_eqb a 0 some)

pub later_decides : (a b : ℕ) → a ≡ 0 → (a or_else b) ≡ b
unfolding ◌or_else◌
later_decides a b none = rw none

-- ---- the largest number in a chain

choice_most : (t : Bool) (x y most : ℕ) → x ≤ most → y ≤ most → cond t x y ≤ most
choice_most true x y most hx hy = hx
choice_most false x y most hx hy = hy

pub unless_most : (test : Bool) (k most : ℕ) → T (leb k most) → unless test k ≤ most
unfolding unless
unless_most test k most h = choice_most test 0 k most (omega arith) (leb→le k most h)

pub or_else_most : (a b most : ℕ) → a ≤ most → b ≤ most → (a or_else b) ≤ most
unfolding ◌or_else◌
or_else_most a b most ha hb = choice_most (eqb a 0) b a most hb ha

pub first_of_most : (n most : ℕ) (refusal : ℕ → ℕ) → ((i : ℕ) → refusal i ≤ most) → first_of n refusal ≤ most
unfolding first_of
first_of_most zero most refusal each = omega arith
first_of_most (suc n) most refusal each = or_else_most (first_of n refusal) (refusal n) most (first_of_most n most refusal each) (each n)
