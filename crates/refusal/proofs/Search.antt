-- The first number for which a test holds: where it stands, and that there is none exactly where the test fails throughout. Assumes nothing.
use Prim.Native.Nat.{ℕ, zero, suc, ◌+◌, ◌≤◌, ◌<◌}
use mathlib.Core.Path.{◌≡◌, refl, sym, ap, ◌∙◌}
use mathlib.Core.Bool.{Bool, true, false, cond}
use mathlib.Core.Logic.{⊎_elim}
use native.Mathlib.Nat.{not-suc-le-zero, eq-or-lt_of_le, le_of_suc-le-suc, le_refl}
use native.Mathlib.Omega.{arith}
use Rattle.refusal.proofs.Refusals.{first_zero, later_zero, both_zero, first_decides, later_decides}
use Rattle.refusal.specs.Refusal.{first_where}

-- the test fails for every number below n
abbrev pub Nowhere : ℕ → (ℕ → Bool) → Type 0
Nowhere n test = (i : ℕ) → i < n → test i ≡ false

-- i is the first number for which the test holds
pub record FirstIs (n : ℕ) (test : ℕ → Bool) (i : ℕ) : Type 0 where
  pub within : i < n
  pub holds : test i ≡ true
  pub before : Nowhere i test

choice_zero : (t : Bool) (k : ℕ) → cond t (k + 1) 0 ≡ 0 → t ≡ false
choice_zero true k e = absurd (omega arith)
choice_zero false k e = refl

pub where_none : (n : ℕ) (test : ℕ → Bool) → first_where n test ≡ 0 → Nowhere n test
unfolding first_where
where_none zero test e i h = absurd (not-suc-le-zero h)
where_none (suc n) test e i h =
    ⊎_elim (λ (same : i ≡ n). rw same (choice_zero (test n) n (later_zero _ _ e))) (λ (below : i < n). where_none n test (first_zero _ _ e) i below)
    (eq-or-lt_of_le (le_of_suc-le-suc h))

pub none_where : (n : ℕ) (test : ℕ → Bool) → Nowhere n test → first_where n test ≡ 0
unfolding first_where
none_where zero test fails = refl
none_where (suc n) test fails = both_zero _ _ (none_where n test (λ i h. fails i (omega arith))) (ap (λ (t : Bool). cond t (n + 1) 0) (fails n (le_refl _)))

pub where_found : (n : ℕ) (test : ℕ → Bool) (i : ℕ) → FirstIs n test i → first_where n test ≡ i + 1
unfolding first_where
where_found zero test i k = absurd (not-suc-le-zero k.within)
where_found (suc n) test i k =
    ⊎_elim last (λ (below : i < n). earlier (where_found n test i (record { within = below; holds = k.holds; before = k.before })))
    (eq-or-lt_of_le (le_of_suc-le-suc k.within))
  where
    last : i ≡ n → first_where (suc n) test ≡ i + 1
    last same =
        let none : first_where n test ≡ 0 = none_where n test (rw (sym same) k.before) in
        later_decides _ _ none ∙ rw (sym same) (ap (λ (t : Bool). cond t (i + 1) 0) k.holds)

    earlier : first_where n test ≡ i + 1 → first_where (suc n) test ≡ i + 1
    earlier found =
        first_decides _ _ (λ zeroed. absurd (omega (arith, found, zeroed))) ∙ found

pub found_where : (n : ℕ) (test : ℕ → Bool) (i : ℕ) → first_where n test ≡ i + 1 → FirstIs n test i
unfolding first_where
found_where zero test i e = absurd (omega arith)
found_where (suc n) test i e = go (first_where n test) refl (found_where n test i)
  where
    step : (t : Bool) (k : ℕ) → cond t (k + 1) 0 ≡ i + 1 → (i ≡ k) × (t ≡ true)
    step true k same = (omega arith, refl)
    step false k same = absurd (omega arith)

    go : (x : ℕ) → first_where n test ≡ x → (first_where n test ≡ i + 1 → FirstIs n test i) → FirstIs (suc n) test i
    go zero none earlier =
        let at = step (test n) n (sym (later_decides _ _ none) ∙ e) in
        record { within = omega arith; holds = rw at.0 at.1; before = rw at.0 (where_none n test none) }
    go (suc x) some earlier =
        let found : first_where n test ≡ i + 1 = sym (first_decides _ _ (λ zeroed. absurd (omega (arith, some, zeroed)))) ∙ e in
        let k = earlier found in
        record { within = omega arith; holds = k.holds; before = k.before }

-- ---- a loop that looks for it

-- at its start
pub where_start : (test : ℕ → Bool) (i : ℕ) → i ≡ 0 → first_where i test ≡ 0
unfolding first_where
where_start test i start = rw start refl

-- after a turn in which the test failed
pub where_step : (test : ℕ → Bool) (i next : ℕ) (t : Bool) → first_where i test ≡ 0 → t ≡ test i → t ≡ false → next ≡ i + 1 → first_where next test ≡ 0
where_step test i next t none is fails later = none_where next test (λ j h. at_most j (omega arith))
  where
    at_most : (j : ℕ) → j ≤ i → test j ≡ false
    at_most j h = ⊎_elim (λ (same : j ≡ i). rw same (sym is ∙ fails)) (λ (below : j < i). where_none i test none j below) (eq-or-lt_of_le h)

-- where it holds
pub where_here : (test : ℕ → Bool) (n i : ℕ) (t : Bool) → first_where i test ≡ 0 → t ≡ test i → t ≡ true → i < n → i + 1 ≡ first_where n test
where_here test n i t none is holds below =
    sym (where_found n test i (record { within = below; holds = sym is ∙ holds; before = where_none i test none }))

-- at its end
pub where_end : (test : ℕ → Bool) (n i : ℕ) → first_where i test ≡ 0 → i ≤ n → n ≤ i → 0 ≡ first_where n test
where_end test n i none low high = let same : i ≡ n = omega arith in sym (rw (sym same) none)
