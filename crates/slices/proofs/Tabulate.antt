-- What stands at each place of a tabulated list, and how a loop fills one. Assumes nothing.
use Prim.Native.Nat.{ℕ, zero, suc, ◌+◌, ◌≤◌, ◌<◌}
use mathlib.Core.Path.{◌≡◌, refl, sym, ap, ap₂, ◌∙◌}
use mathlib.Core.List.{List, [], ◌∷◌, ◌++◌, append_assoc, append-nil}
use native.Mathlib.Nat.{not-suc-le-zero, le_of_suc-le-suc}
use native.Mathlib.Numerals.{add-one}
use native.Mathlib.Omega.{arith}
use lib.ListN.{length, take, drop, set, length-set, get_or-eq_default}
use lib.Seq.{ext_get_or, drop-cons, drop-length, set_at, take_all, take-suc-set}
use Rattle.slices.specs.Slices.{◌!◌, tabulate}

pub length-tabulate : (n : ℕ) (f : ℕ → ℕ) → length (tabulate n f) ≡ n
unfolding tabulate
length-tabulate zero f = refl
length-tabulate (suc n) f = ap suc (length-tabulate n (λ i. f (suc i)))

pub tabulate_at : (n : ℕ) (f : ℕ → ℕ) (i : ℕ) → i < n → tabulate n f ! i ≡ f i
unfolding tabulate
tabulate_at zero f i h = absurd (not-suc-le-zero h)
tabulate_at (suc n) f zero h = refl
tabulate_at (suc n) f (suc i) h = tabulate_at n (λ k. f (suc k)) i (le_of_suc-le-suc h)

pub tabulate_beyond : (n : ℕ) (f : ℕ → ℕ) (i : ℕ) → n ≤ i → tabulate n f ! i ≡ 0
tabulate_beyond n f i h = get_or-eq_default (tabulate n f) 0 (rw (length-tabulate n f) h)

-- a list is what it is tabulated from
pub tabulate_of : (l : List ℕ) (n : ℕ) (f : ℕ → ℕ) → length l ≡ n → ((i : ℕ) → i < n → l ! i ≡ f i) → l ≡ tabulate n f
tabulate_of l n f len each =
    ext_get_or 0 l (tabulate n f) (len ∙ sym (length-tabulate n f)) (λ i h. let below : i < n = rw len at h in each i below ∙ sym (tabulate_at n f i below))

pub tabulate_cong : (n : ℕ) (f g : ℕ → ℕ) → ((i : ℕ) → i < n → f i ≡ g i) → tabulate n f ≡ tabulate n g
tabulate_cong n f g same = tabulate_of (tabulate n f) n g (length-tabulate n f) (λ i h. tabulate_at n f i h ∙ same i h)

-- ---- a loop that fills a list from the front

pub tabulate_snoc : (n : ℕ) (f : ℕ → ℕ) → tabulate (suc n) f ≡ tabulate n f ++ f n ∷ []
unfolding tabulate
tabulate_snoc zero f = refl
tabulate_snoc (suc n) f = ap (λ (t : List ℕ). f 0 ∷ t) (tabulate_snoc n (λ i. f (suc i)))

pub fill_start : (d : List ℕ) (f : ℕ → ℕ) → d ≡ tabulate 0 f ++ drop 0 d
unfolding tabulate
fill_start d f = refl

pub fill_step : (d l : List ℕ) (f : ℕ → ℕ) (i v : ℕ) → l ≡ tabulate i f ++ drop i d → i < length d → v ≡ f i → set l i v ≡ tabulate (i + 1) f ++ drop (i + 1) d
fill_step d l f i v e h ev =
    ap₂ (λ (t : List ℕ) (u : ℕ). set t i u) (e ∙ ap (λ (t : List ℕ). tabulate i f ++ t) (drop-cons d i 0 h)) ev ∙
    set_at (tabulate i f) (d ! i) (drop (suc i) d) (f i) i (length-tabulate i f) ∙
    rw (add-one, tabulate_snoc, append_assoc)

pub fill_end : (d l : List ℕ) (f : ℕ → ℕ) (i : ℕ) → l ≡ tabulate i f ++ drop i d → i ≡ length d → l ≡ tabulate (length d) f
fill_end d l f i e h = e ∙ rw (h, drop-length, append-nil)

-- ---- a loop that fills the first n of an array's k places

-- the first i of them are filled by the rule f
abbrev pub Filled : (ℕ → ℕ) → ℕ → ℕ → List ℕ → ℕ → Type 0
Filled f n k l i = (i ≤ n) × (length l ≡ k) × (take i l ≡ tabulate i f)

-- a store at i of what the rule gives there
pub fill_more : (f : ℕ → ℕ) (n k : ℕ) (l : List ℕ) (i v : ℕ) → n ≤ k → i < n → Filled f n k l i → v ≡ f i → Filled f n k (set l i v) (i + 1)
fill_more f n k l i v room h (le, len, e) ev =
    let below : i < length l = omega arith in
    (omega arith, length-set l i v ∙ len, rw (add-one, take-suc-set, tabulate_snoc) (simp (e, ev)))

-- an array that is filled to its end is the list
pub filled : (f : ℕ → ℕ) (n : ℕ) (l : List ℕ) (i : ℕ) → n ≤ i → Filled f n n l i → l ≡ tabulate n f
filled f n l i past (le, len, e) =
    let at_end : i ≡ n = omega arith in
    sym (take_all i l (omega arith)) ∙ e ∙ ap (λ (k : ℕ). tabulate k f) at_end
