-- The tests of a label hold exactly where it is well-formed, and where it stands below another. Assumes nothing.
use Prim.Native.Nat.{ℕ, zero, suc, ◌+◌, ◌*◌, ◌/◌, ◌%◌, ◌≤◌, ◌<◌}
use mathlib.Core.Path.{◌≡◌, refl, sym, ap, ap₂, ◌∙◌}
use mathlib.Core.Bool.{Bool, true, false, false≢true, ◌&&◌}
use mathlib.Core.Logic.{◌⊎◌, inl, inr, ⊎_elim}
use mathlib.Core.List.{List, [], ◌∷◌}
use native.Mathlib.Nat.{not-suc-le-zero, eq-or-lt_of_le, le_of_suc-le-suc, le_refl}
use native.Mathlib.Decide.{dec_lt, ℕ_discrete}
use native.Mathlib.Omega.{arith}
use lib.Dec.{leb, ltb, eqb}
use lib.ListN.{length}
use borrow.Author.Tests.{eqb-true, eq-eqb, ne_eqb, leb-true, le-leb, lt-ltb, le-ltb, ltb-true}
use Rattle.slices.specs.Slices.{◌!◌}
use Rattle.slices.proofs.Booleans.{and_left, and_right, and_both}
use Rattle.label.specs.Label.{halves, WellFormedLabel, Below}
use Rattle.label.specs.Tests.{are_digits, are_last, all_of, is_label, rises, is_below}
use Rattle.label.proofs.Halves.{length-halves, half_low, half_high, parity}

-- ---- a test that holds for every number below n

pub all_each : (n : ℕ) (test : ℕ → Bool) → all_of n test ≡ true → (i : ℕ) → i < n → test i ≡ true
unfolding all_of
all_each zero test e i h = absurd (not-suc-le-zero h)
all_each (suc n) test e i h =
    ⊎_elim (λ (same : i ≡ n). rw same (and_right (all_of n test) (test n) e)) (λ (below : i < n). all_each n test (and_left (all_of n test) (test n) e) i below)
    (eq-or-lt_of_le (le_of_suc-le-suc h))

pub each_all : (n : ℕ) (test : ℕ → Bool) → ((i : ℕ) → i < n → test i ≡ true) → all_of n test ≡ true
unfolding all_of
each_all zero test each = refl
each_all (suc n) test each = and_both (all_of n test) (test n) (each_all n test (λ i h. each i (omega arith))) (each n (le_refl _))

-- one for which it fails
pub all_fails : (n i : ℕ) (test : ℕ → Bool) → i < n → test i ≡ false → all_of n test ≡ false
all_fails n i test h fails = go (all_of n test) refl
  where
    go : (t : Bool) → all_of n test ≡ t → all_of n test ≡ false
    go true e = absurd (false≢true (sym fails ∙ all_each n test e i h))
    go false e = e

-- ---- well-formed

digits : (byte : ℕ) → are_digits byte ≡ true → (byte % 16 ≤ 9) × (byte / 16 ≤ 9)
unfolding are_digits
digits byte e =
    (leb-true (byte % 16) 9 (and_left (leb (byte % 16) 9) (leb (byte / 16) 9) e), leb-true (byte / 16) 9 (and_right (leb (byte % 16) 9) (leb (byte / 16) 9) e))

digits_true : (byte : ℕ) → byte % 16 ≤ 9 → byte / 16 ≤ 9 → are_digits byte ≡ true
unfolding are_digits
digits_true byte low high = and_both _ _ (le-leb (byte % 16) 9 low) (le-leb (byte / 16) 9 high)

last : (byte : ℕ) → are_last byte ≡ true → (byte % 16 ≤ 9) × ((byte / 16 ≤ 9) ⊎ (byte / 16 ≡ 15))
unfolding are_last
last byte e = go (eqb (byte / 16) 15) refl
  where
    go : (t : Bool) → eqb (byte / 16) 15 ≡ t → (byte % 16 ≤ 9) × ((byte / 16 ≤ 9) ⊎ (byte / 16 ≡ 15))
    go true f = (leb-true (byte % 16) 9 (rw f at e), inr (eqb-true (byte / 16) 15 f))
    go false f = let both = digits byte (rw f at e) in (both.0, inl both.1)

last_true : (byte : ℕ) → byte % 16 ≤ 9 → (byte / 16 ≤ 9) ⊎ (byte / 16 ≡ 15) → are_last byte ≡ true
unfolding are_last
last_true byte low (inl high) = rw (ne_eqb (byte / 16) 15 (λ f. absurd (omega (arith, f, high)))) (digits_true byte low high)
last_true byte low (inr f) = rw (eq-eqb (byte / 16) 15 f) (le-leb (byte % 16) 9 low)

pub well_formed : (l : List ℕ) → is_label l ≡ true → WellFormedLabel l
unfolding is_label
well_formed l e =
    let rest = and_right (eqb (length l) 10) (all_of 9 (λ i. are_digits (l ! i)) && are_last (l ! 9)) e in
    let nine = all_each 9 (λ i. are_digits (l ! i)) (and_left (all_of 9 (λ i. are_digits (l ! i))) (are_last (l ! 9)) rest) in
    let tenth = last (l ! 9) (and_right (all_of 9 (λ i. are_digits (l ! i))) (are_last (l ! 9)) rest) in
    record {
      ten_bytes = eqb-true (length l) 10 (and_left (eqb (length l) 10) _ e);
      digits = λ i below. ⊎_elim (λ (even : i ≡ 2 * (i / 2)). low nine tenth i (i / 2) even below) (λ (odd : i ≡ 2 * (i / 2) + 1). high nine i (i / 2) odd below) (parity i);
      twentieth = rw (half_high l 9) tenth.1;
    }
  where
    low : ((i : ℕ) → i < 9 → are_digits (l ! i) ≡ true) → (((l ! 9) % 16 ≤ 9) × (((l ! 9) / 16 ≤ 9) ⊎ ((l ! 9) / 16 ≡ 15))) → (i k : ℕ) → i ≡ 2 * k → i < 19 → halves l ! i ≤ 9
    low nine tenth i k even below =
        rw (even, half_low l k)
        (⊎_elim (λ (same : k ≡ 9). rw same tenth.0) (λ (less : k < 9). (digits (l ! k) (nine k less)).0) (eq-or-lt_of_le (omega (arith, even, below))))

    high : ((i : ℕ) → i < 9 → are_digits (l ! i) ≡ true) → (i k : ℕ) → i ≡ 2 * k + 1 → i < 19 → halves l ! i ≤ 9
    high nine i k odd below = rw (odd, half_high l k) (digits (l ! k) (nine k (omega (arith, odd, below)))).1

pub is_label_lem : (l : List ℕ) → WellFormedLabel l → is_label l ≡ true
unfolding is_label
is_label_lem l w =
    and_both _ _ (eq-eqb (length l) 10 w.ten_bytes)
    (and_both _ _ (each_all 9 (λ i. are_digits (l ! i)) (λ i h. digits_true (l ! i) (rw (sym (half_low l i)) (w.digits (2 * i) (omega arith))) (rw (sym (half_high l i)) (w.digits (2 * i + 1) (omega arith)))))
    (last_true (l ! 9) (rw (sym (half_low l 9)) (w.digits 18 (omega arith))) (rw (half_high l 9) at w.twentieth)))

-- ---- the order

-- the first place in which two lists differ, where xs is lower
pub record RisesAt (xs ys : List ℕ) : Type 0 where
  pub place : ℕ
  pub within : place < length xs
  pub alike : (i : ℕ) → i < place → xs ! i ≡ ys ! i
  pub lower : xs ! place < ys ! place

-- behind an equal digit
pub rises_behind : (x y : ℕ) (xs ys : List ℕ) → x ≡ y → RisesAt xs ys → RisesAt (x ∷ xs) (y ∷ ys)
rises_behind x y xs ys same r = record { place = suc r.place; within = omega (arith, r.within); alike = each; lower = r.lower }
  where
    each : (i : ℕ) → i < suc r.place → (x ∷ xs) ! i ≡ (y ∷ ys) ! i
    each zero h = same
    each (suc i) h = r.alike i (le_of_suc-le-suc h)

pub rises_first : (x y : ℕ) (xs ys : List ℕ) → x < y → RisesAt (x ∷ xs) (y ∷ ys)
rises_first x y xs ys less = record { place = 0; within = omega arith; alike = λ i h. absurd (not-suc-le-zero h); lower = less }

rises_at : (xs ys : List ℕ) → rises xs ys ≡ true → RisesAt xs ys
unfolding rises
rises_at [] ys e = absurd (false≢true e)
rises_at (x ∷ xs) [] e = absurd (false≢true e)
rises_at (x ∷ xs) (y ∷ ys) e = go (eqb x y) refl (rises_at xs ys)
  where
    go : (t : Bool) → eqb x y ≡ t → (rises xs ys ≡ true → RisesAt xs ys) → RisesAt (x ∷ xs) (y ∷ ys)
    go true same behind = rises_behind x y xs ys (eqb-true x y same) (behind (rw same at e))
    go false differ behind = rises_first x y xs ys (ltb-true x y (rw differ at e))

at_rises : (xs ys : List ℕ) (k : ℕ) → length xs ≡ length ys → k < length xs → ((i : ℕ) → i < k → xs ! i ≡ ys ! i) → xs ! k < ys ! k → rises xs ys ≡ true
unfolding rises
at_rises [] ys k long within alike lower = absurd (not-suc-le-zero within)
at_rises (x ∷ xs) [] k long within alike lower = absurd (omega (arith, long))
at_rises (x ∷ xs) (y ∷ ys) zero long within alike lower = rw (ne_eqb x y (λ same. absurd (omega (arith, same, lower)))) (lt-ltb x y lower)
at_rises (x ∷ xs) (y ∷ ys) (suc k) long within alike lower =
    rw (eq-eqb x y (alike 0 (omega arith))) (at_rises xs ys k (omega (arith, long)) (le_of_suc-le-suc within) (λ i h. alike (suc i) (omega arith)) lower)

twenty : (l : List ℕ) → length l ≡ 10 → length (halves l) ≡ 20
twenty l ten = let twice = length-halves l in omega (arith, ten, twice)

pub below : (a b : List ℕ) → is_below a b ≡ true → Below a b
unfolding is_below
below a b e =
    let ten = eqb-true (length a) 10 (and_left (eqb (length a) 10) _ e) in
    let rest = and_right (eqb (length a) 10) (eqb (length b) 10 && rises (halves a) (halves b)) e in
    let r = rises_at (halves a) (halves b) (and_right (eqb (length b) 10) (rises (halves a) (halves b)) rest) in
    let long = twenty a ten in
    record { place = r.place; within = omega (arith, r.within, long); alike = r.alike; lower = r.lower }

-- of what stands below something
pub below_ten : (a b : List ℕ) → is_below a b ≡ true → (length a ≡ 10) × (length b ≡ 10)
unfolding is_below
below_ten a b e =
    let rest = and_right (eqb (length a) 10) (eqb (length b) 10 && rises (halves a) (halves b)) e in
    (eqb-true (length a) 10 (and_left (eqb (length a) 10) _ e), eqb-true (length b) 10 (and_left (eqb (length b) 10) (rises (halves a) (halves b)) rest))

pub is_below_lem : (a b : List ℕ) → length a ≡ 10 → length b ≡ 10 → Below a b → is_below a b ≡ true
unfolding is_below
is_below_lem a b ten_a ten_b w =
    let long_a = twenty a ten_a in
    let long_b = twenty b ten_b in
    and_both _ _ (eq-eqb (length a) 10 ten_a)
    (and_both _ _ (eq-eqb (length b) 10 ten_b) (at_rises (halves a) (halves b) w.place (long_a ∙ sym long_b) (omega (arith, w.within, long_a)) w.alike w.lower))

-- ---- a loop that compares two labels byte by byte

-- two bytes that are the same say nothing
rises_same : (x y : ℕ) (a b : List ℕ) → x ≡ y → rises (halves (x ∷ a)) (halves (y ∷ b)) ≡ rises (halves a) (halves b)
unfolding halves rises
rises_same x y a b same = simp (eq-eqb (x % 16) (y % 16) (ap (λ (k : ℕ). k % 16) same), eq-eqb (x / 16) (y / 16) (ap (λ (k : ℕ). k / 16) same))

above : (a b : ℕ) → (a < b → ⊥) → b ≤ a
above a b not_less = omega (arith, not_less)

ltb_same : (a b c d : ℕ) → (a < b → c < d) → (c < d → a < b) → ltb a b ≡ ltb c d
ltb_same a b c d to from =
    elim (dec_lt a b) [
      | yes less ↦ lt-ltb a b less ∙ sym (lt-ltb c d (to less))
      | no more ↦ le-ltb a b (above a b more) ∙ sym (le-ltb c d (above c d (λ less. more (from less))))
    ]

-- two that differ decide, as numbers whose first digit is the higher
rises_differ : (x y : ℕ) (a b : List ℕ) → x / 16 < 16 → y / 16 < 16 → (16 * (x % 16) + x / 16 ≡ 16 * (y % 16) + y / 16 → ⊥) →
    ltb (16 * (x % 16) + x / 16) (16 * (y % 16) + y / 16) ≡ rises (halves (x ∷ a)) (halves (y ∷ b))
unfolding halves rises
rises_differ x y a b hx hy differ =
    elim (ℕ_discrete (x % 16) (y % 16)) [
      | yes low ↦
          rw (eq-eqb (x % 16) (y % 16) low, ne_eqb (x / 16) (y / 16) (λ high. differ (omega (arith, low, high))))
          (ltb_same (16 * (x % 16) + x / 16) (16 * (y % 16) + y / 16) (x / 16) (y / 16) (λ less. omega (arith, less, low)) (λ less. omega (arith, less, low)))
      | no low ↦
          rw (ne_eqb (x % 16) (y % 16) low)
          (ltb_same (16 * (x % 16) + x / 16) (16 * (y % 16) + y / 16) (x % 16) (y % 16) (λ less. omega (arith, less, hx, hy, low)) (λ less. omega (arith, less, hx, hy)))
    ]

-- a byte's number, of which the second digit is the lower
abbrev pub Ordered : ℕ → ℕ → Type 0
Ordered x byte = (x ≡ 16 * (byte % 16) + byte / 16) × (byte / 16 < 16)

byte_equal : (x y p q : ℕ) → Ordered x p → Ordered y q → x ≡ y → p ≡ q
byte_equal x y p q (ex, hp) (ey, hq) same =
    let low : p % 16 ≡ q % 16 = omega (arith, hp, hq, same, ex, ey) in
    let high : p / 16 ≡ q / 16 = omega (arith, low, same, ex, ey) in
    omega (arith, low, high)

pub first_same : (x y : ℕ) (ls ms xs ys : List ℕ) → ls ≡ x ∷ xs → ms ≡ y ∷ ys → x ≡ y → rises (halves ls) (halves ms) ≡ rises (halves xs) (halves ys)
first_same x y ls ms xs ys ea eb same = ap₂ (λ (s t : List ℕ). rises (halves s) (halves t)) ea eb ∙ rises_same x y xs ys same

pub first_decides : (x y u v : ℕ) (ls ms xs ys : List ℕ) → ls ≡ x ∷ xs → ms ≡ y ∷ ys → Ordered u x → Ordered v y → (x ≡ y → ⊥) → ltb u v ≡ rises (halves ls) (halves ms)
first_decides x y u v ls ms xs ys ea eb ox oy differ =
    ap₂ ltb ox.0 oy.0 ∙ rises_differ x y xs ys ox.1 oy.1 (λ same. differ (byte_equal u v x y ox oy (ox.0 ∙ same ∙ sym oy.0))) ∙
    sym (ap₂ (λ (s t : List ℕ). rises (halves s) (halves t)) ea eb)

pub none_left : (ls ms : List ℕ) → ls ≡ [] → false ≡ rises (halves ls) (halves ms)
unfolding rises halves
none_left ls ms e = sym (ap (λ (s : List ℕ). rises (halves s) (halves ms)) e)

-- labels of ten bytes, and others
pub ten_below : (a b : List ℕ) → length a ≡ 10 → length b ≡ 10 → rises (halves a) (halves b) ≡ is_below a b
unfolding is_below
ten_below a b ten_a ten_b = sym (simp (eq-eqb (length a) 10 ten_a, eq-eqb (length b) 10 ten_b))

pub first_not_ten : (a b : List ℕ) → (length a ≡ 10 → ⊥) → false ≡ is_below a b
unfolding is_below
first_not_ten a b not_ten = sym (simp (ne_eqb (length a) 10 not_ten))

pub second_not_ten : (a b : List ℕ) → length a ≡ 10 → (length b ≡ 10 → ⊥) → false ≡ is_below a b
unfolding is_below
second_not_ten a b ten_a not_ten = sym (simp (eq-eqb (length a) 10 ten_a, ne_eqb (length b) 10 not_ten))

-- ---- the test of the bytes of a label

pub not_ten : (l : List ℕ) → (length l ≡ 10 → ⊥) → false ≡ is_label l
unfolding is_label
not_ten l differs = sym (simp (ne_eqb (length l) 10 differs))

pub last_decides : (l : List ℕ) → length l ≡ 10 → all_of 9 (λ k. are_digits (l ! k)) ≡ true → are_last (l ! 9) ≡ is_label l
unfolding is_label
last_decides l ten nine = sym (simp (eq-eqb (length l) 10 ten, nine))
