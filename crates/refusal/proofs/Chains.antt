-- A chain of refusals that is left at the first that applies. Assumes nothing.
use Prim.Native.Nat.{ℕ, zero, suc, ◌+◌, ◌<◌}
use mathlib.Core.Path.{◌≡◌, refl, sym, ◌∙◌}
use mathlib.Core.Logic.{⊎_elim}
use native.Mathlib.Nat.{not-suc-le-zero, eq-or-lt_of_le, le_of_suc-le-suc}
use Rattle.refusal.specs.Refusal.{◌or_else◌, first_of}
use Rattle.refusal.proofs.Refusals.{both_zero, first_of_step, first_decides, later_decides}

-- the first refuses
pub ends_here : (a rest x : ℕ) → x ≡ a → (x ≡ 0 → ⊥) → x ≡ (a or_else rest)
ends_here a rest x is some = is ∙ sym (first_decides a rest (λ none. some (is ∙ none)))

-- it does not, and the rest decides
pub goes_on : (a rest x y : ℕ) → x ≡ a → x ≡ 0 → y ≡ rest → y ≡ (a or_else rest)
goes_on a rest x y is zeroed later = later ∙ sym (later_decides a rest (sym is ∙ zeroed))

-- ---- over an index

-- none at the start
pub none_at_start : (refusal : ℕ → ℕ) (i : ℕ) → i ≡ 0 → first_of i refusal ≡ 0
unfolding first_of
none_at_start refusal i start = rw start refl

-- none of the first: none before, and not this one
pub none_so_far : (refusal : ℕ → ℕ) (i next x : ℕ) → first_of i refusal ≡ 0 → x ≡ refusal i → x ≡ 0 → next ≡ i + 1 → first_of next refusal ≡ 0
none_so_far refusal i next x none is zeroed later = rw later (sym (first_of_step refusal i 0 x (sym none) is) ∙ both_zero 0 x refl zeroed)

-- this one, before which there is none
pub first_here : (refusal : ℕ → ℕ) (n i x : ℕ) → first_of i refusal ≡ 0 → x ≡ refusal i → (x ≡ 0 → ⊥) → i < n → x ≡ first_of n refusal
unfolding first_of
first_here refusal zero i x none is some below = absurd (not-suc-le-zero below)
first_here refusal (suc n) i x none is some below =
    ⊎_elim last (λ (less : i < n). earlier (first_here refusal n i x none is some less)) (eq-or-lt_of_le (le_of_suc-le-suc below))
  where
    last : i ≡ n → x ≡ (first_of n refusal or_else refusal n)
    last same = sym (later_decides (first_of n refusal) (refusal n) (rw (sym same) none) ∙ rw (sym same) (sym is))

    earlier : x ≡ first_of n refusal → x ≡ (first_of n refusal or_else refusal n)
    earlier found = ends_here (first_of n refusal) (refusal n) x found some

-- none of all
pub none_at_end : (refusal : ℕ → ℕ) (n i : ℕ) → first_of i refusal ≡ 0 → i ≡ n → 0 ≡ first_of n refusal
none_at_end refusal n i none same = sym (rw (sym same) none)
