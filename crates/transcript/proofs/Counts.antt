-- The count of accepted rounds: no more than the rounds, and all of them exactly where each is accepted. Assumes nothing.
use Prim.Native.Nat.{ℕ, zero, suc, ◌+◌, ◌≤◌, ◌<◌}
use mathlib.Core.Path.{◌≡◌, refl, ap₂, ◌∙◌}
use mathlib.Core.Bool.{Bool, true, false, cond}
use mathlib.Core.List.{List}
use mathlib.Core.Logic.{⊎_elim}
use mir.Val.{bool_byte}
use native.Mathlib.Nat.{not-suc-le-zero, eq-or-lt_of_le, le_of_suc-le-suc, le_refl}
use native.Mathlib.Omega.{arith}
use native.Mathlib.Numerals.{add-one}
use Rattle.transcript.specs.Transcript.{accepted_round, accepted_count}

-- ---- a loop over the rounds that counts

pub count_start : (system b : List ℕ) (r : ℕ) → r ≡ 0 → 0 ≡ accepted_count system b r
unfolding accepted_count
count_start system b r none = rw none refl

pub count_step : (system b : List ℕ) (count next r later : ℕ) (accepted : Bool) → count ≡ accepted_count system b r → later ≡ r + 1 → accepted ≡ accepted_round system b r →
    next ≡ count + cond accepted 1 0 → next ≡ accepted_count system b later
unfolding accepted_count
count_step system b count next r later accepted ec el ea en = rw (el, add-one) (en ∙ ap₂ (λ (k : ℕ) (t : Bool). k + cond t 1 0) ec ea)

-- a `bool` as a byte is 1 or 0
pub as_count : (t : Bool) → bool_byte t ≡ cond t 1 0
as_count true = refl
as_count false = refl

-- one round more, and at most one accepted more
pub one_more_at_most : (accepted one r : ℕ) (t : Bool) → one ≡ cond t 1 0 → accepted ≤ r → accepted + one ≤ r + 1
one_more_at_most accepted one r true is most = omega (arith, is, most)
one_more_at_most accepted one r false is most = omega (arith, is, most)

-- ---- what the count says

pub count_most : (system b : List ℕ) (n : ℕ) → accepted_count system b n ≤ n
unfolding accepted_count
count_most system b zero = le_refl 0
count_most system b (suc n) = go (accepted_round system b n) (count_most system b n)
  where
    go : (t : Bool) → accepted_count system b n ≤ n → accepted_count system b n + cond t 1 0 ≤ suc n
    go true most = omega arith
    go false most = omega arith

-- the count is of all rounds: each is accepted
pub count_all : (system b : List ℕ) (n : ℕ) → accepted_count system b n ≡ n → (r : ℕ) → r < n → accepted_round system b r ≡ true
unfolding accepted_count
count_all system b zero e r h = absurd (not-suc-le-zero h)
count_all system b (suc n) e r h = go (accepted_round system b n) refl (count_all system b n)
  where
    go : (t : Bool) → accepted_round system b n ≡ t → (accepted_count system b n ≡ n → (k : ℕ) → k < n → accepted_round system b k ≡ true) → accepted_round system b r ≡ true
    go true last before =
        let fewer : accepted_count system b n + 1 ≡ suc n = simp last at e in
        let all : accepted_count system b n ≡ n = omega arith in
        ⊎_elim (λ (same : r ≡ n). rw same last) (λ (below : r < n). before all r below) (eq-or-lt_of_le (le_of_suc-le-suc h))
    go false last before =
        let too_few : accepted_count system b n + 0 ≡ suc n = simp last at e in
        absurd (omega (arith, too_few, count_most system b n))

-- each round is accepted: the count is of all
pub all_count : (system b : List ℕ) (n : ℕ) → ((r : ℕ) → r < n → accepted_round system b r ≡ true) → accepted_count system b n ≡ n
unfolding accepted_count
all_count system b zero each = refl
all_count system b (suc n) each =
    let last : accepted_round system b n ≡ true = each n (le_refl _) in
    let before : accepted_count system b n ≡ n = all_count system b n (λ r h. each r (omega arith)) in
    simp (last, before) (omega arith)
