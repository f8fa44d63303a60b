-- The digits of a label give it back, and the label of an ICCID has its digits: what is printed can be asked for. Assumes nothing.
use Prim.Native.Nat.{ℕ, zero, suc, ◌+◌, ◌-◌, ◌*◌, ◌/◌, ◌%◌, ◌≤◌, ◌<◌}
use mathlib.Core.Path.{◌≡◌, refl, sym, ap, ap₂, ◌∙◌}
use mathlib.Core.Bool.{Bool, true, false, cond, ◌&&◌}
use mathlib.Core.Logic.{◌⊎◌, inl, inr, ⊎_elim}
use mathlib.Core.List.{List, [], ◌∷◌, ◌++◌}
use native.Mathlib.Omega.{arith}
use native.Mathlib.Decide.{dec_lt}
use lib.Dec.{eqb, leb}
use lib.ListN.{length}
use borrow.Author.Tests.{eq-eqb, ne_eqb, leb-true, le-leb, lt-ltb, le-ltb}
use Rattle.slices.specs.Slices.{◌!◌, tabulate}
use Rattle.slices.proofs.Booleans.{and_right}
use Rattle.slices.proofs.Tabulate.{length-tabulate, tabulate_at, tabulate_of}
use Rattle.label.specs.Label.{halves, WellFormedLabel}
use Rattle.label.proofs.Halves.{length-halves, half_low, half_high, parity}
use Rattle.iccid.specs.Iccid.{half_digit, digits_of, label_digits, half_of, character_at, byte_from, has_label, label_from, AllDigits}

-- ---- one half

-- a digit's half, and a half's digit
digit_half : (c : ℕ) → 48 ≤ c → c ≤ 57 → 48 + half_of c ≡ c
unfolding half_of
digit_half c low high = simp (ne_eqb c 70 (λ f. absurd (omega (arith, f, high))), le-leb 48 c low, le-leb c 57 high) (omega (arith, low))

half_digit_lem : (h : ℕ) → h ≤ 9 → half_digit h ≡ (48 + h) ∷ []
unfolding half_digit
half_digit_lem h low = simp (ne_eqb h 15 (λ f. absurd (omega (arith, f, low))))

half_back : (h : ℕ) → h ≤ 9 → half_of (48 + h) ≡ h
half_back h low = let back = digit_half (48 + h) (omega arith) (omega (arith, low)) in omega (arith, back)

half_small : (c : ℕ) → half_of c < 16
unfolding half_of
half_small c = go (eqb c 70) (leb 48 c && leb c 57) refl
  where
    go : (t u : Bool) → (leb 48 c && leb c 57) ≡ u → cond t 15 (cond u (c - 48) 10) < 16
    go true u e = omega arith
    go false true e = let high = leb-true c 57 (and_right (leb 48 c) (leb c 57) e) in omega (arith, high)
    go false false e = omega arith

-- behind the last character
half_beyond : (j : ℕ) → half_of (character_at [] j) ≡ 15
unfolding half_of character_at
half_beyond j = simp (le-ltb j 0 (omega arith))

-- the first character, and the next
first_of_lem : (c : ℕ) (t : List ℕ) → character_at (c ∷ t) 0 ≡ c
unfolding character_at
first_of_lem c t = simp (lt-ltb 0 (suc (length t)) (omega arith))

next_of : (c j : ℕ) (t : List ℕ) → character_at (c ∷ t) (suc j) ≡ character_at t j
unfolding character_at
next_of c j t =
    elim (dec_lt j (length t)) [
      | yes within ↦ simp (lt-ltb j (length t) within, lt-ltb (suc j) (suc (length t)) (omega (arith, within)))
      | no beyond ↦ simp (le-ltb j (length t) (omega (arith, beyond)), le-ltb (suc j) (suc (length t)) (omega (arith, beyond)))
    ]

-- ---- the digits of a label

-- halves of which each is a digit, but for the last, which may be F
record Halves (hs : List ℕ) (n : ℕ) : Type 0 where
  long : length hs ≡ suc n
  digits : (i : ℕ) → i < n → hs ! i ≤ 9
  last : (hs ! n ≤ 9) ⊎ (hs ! n ≡ 15)

behind : (h : ℕ) (hs : List ℕ) (n : ℕ) → Halves (h ∷ hs) (suc n) → Halves hs n
behind h hs n k = record { long = omega (arith, k.long); digits = λ i below. k.digits (suc i) (omega arith); last = k.last }

-- the digits of one half more
one_more : (h : ℕ) (hs : List ℕ) → h ≤ 9 → digits_of (h ∷ hs) ≡ (48 + h) ∷ digits_of hs
unfolding digits_of
one_more h hs low = ap (λ (l : List ℕ). l ++ digits_of hs) (half_digit_lem h low)

no_digit : (h : ℕ) → h ≡ 15 → half_digit h ≡ []
unfolding half_digit
no_digit h f = simp f

last_digit_lem : (h : ℕ) → h ≤ 9 → digits_of (h ∷ []) ≡ (48 + h) ∷ []
unfolding digits_of
last_digit_lem h low = one_more h [] low

last_none : (h : ℕ) → h ≡ 15 → digits_of (h ∷ []) ≡ []
unfolding digits_of
last_none h f = ap (λ (l : List ℕ). l ++ []) (no_digit h f)

digits_long : (hs : List ℕ) (n : ℕ) → Halves hs n → (length (digits_of hs) ≡ suc n) ⊎ (length (digits_of hs) ≡ n)
digits_long (h ∷ []) zero k = ⊎_elim (λ (low : h ≤ 9). inl (ap length (last_digit_lem h low))) (λ (f : h ≡ 15). inr (ap length (last_none h f))) k.last
digits_long (h ∷ hs) (suc n) k =
    let one = ap length (one_more h hs (k.digits 0 (omega arith))) in
    ⊎_elim (λ e. inl (omega (arith, one, e))) (λ e. inr (omega (arith, one, e))) (digits_long hs n (behind h hs n k))
digits_long [] n k = absurd (omega (arith, k.long))
digits_long (h ∷ g ∷ hs) zero k = absurd (omega (arith, k.long))

-- the half that stands behind each character, and F behind the last
character_back : (hs : List ℕ) (n : ℕ) → Halves hs n → (j : ℕ) → j < suc n → half_of (character_at (digits_of hs) j) ≡ hs ! j
character_back (h ∷ []) zero k zero below =
    ⊎_elim
    (λ (low : h ≤ 9). ap (λ (t : List ℕ). half_of (character_at t 0)) (last_digit_lem h low) ∙ ap half_of (first_of_lem (48 + h) []) ∙ half_back h low)
    (λ (f : h ≡ 15). ap (λ (t : List ℕ). half_of (character_at t 0)) (last_none h f) ∙ half_beyond 0 ∙ sym f)
    k.last
character_back (h ∷ hs) (suc n) k zero below =
    let low = k.digits 0 (omega arith) in
    ap (λ (t : List ℕ). half_of (character_at t 0)) (one_more h hs low) ∙ ap half_of (first_of_lem (48 + h) (digits_of hs)) ∙ half_back h low
character_back (h ∷ hs) (suc n) k (suc j) below =
    ap (λ (t : List ℕ). half_of (character_at t (suc j))) (one_more h hs (k.digits 0 (omega arith))) ∙ ap half_of (next_of (48 + h) j (digits_of hs)) ∙
    character_back hs n (behind h hs n k) j (omega arith)
character_back (h ∷ []) zero k (suc j) below = absurd (omega (arith, below))
character_back [] n k j below = absurd (omega (arith, k.long))
character_back (h ∷ g ∷ hs) zero k j below = absurd (omega (arith, k.long))

-- an ICCID of nineteen characters or twenty
right_length : (t : List ℕ) → (length t ≡ 20) ⊎ (length t ≡ 19) → has_label t ≡ true
unfolding has_label
right_length t (inl twenty) = simp (eq-eqb (length t) 20 twenty)
right_length t (inr nineteen) = simp (ne_eqb (length t) 20 (λ e. absurd (omega (arith, e, nineteen))), eq-eqb (length t) 19 nineteen)

has_bytes : (t : List ℕ) → has_label t ≡ true → label_from t ≡ tabulate 10 (byte_from t)
unfolding label_from
has_bytes t e = simp e

module _ (l : List ℕ) (w : WellFormedLabel l) where
  its_halves : Halves (halves l) 19
  its_halves = record { long = let twice = length-halves l in omega (arith, twice, w.ten_bytes); digits = w.digits; last = w.twentieth }

  byte_back : (i : ℕ) → i < 10 → l ! i ≡ byte_from (label_digits l) i
  unfolding byte_from label_digits
  byte_back i h =
      let low = character_back (halves l) 19 its_halves (2 * i) (omega arith) ∙ half_low l i in
      let high = character_back (halves l) 19 its_halves (2 * i + 1) (omega arith) ∙ half_high l i in
      omega (arith, low, high)

  its_length : (length (label_digits l) ≡ 20) ⊎ (length (label_digits l) ≡ 19)
  unfolding label_digits
  its_length = digits_long (halves l) 19 its_halves

  -- what is printed of a label gives it back
  pub label_back : label_from (label_digits l) ≡ l
  label_back = has_bytes (label_digits l) (right_length (label_digits l) its_length) ∙ sym (tabulate_of l 10 (byte_from (label_digits l)) w.ten_bytes byte_back)

-- ---- the label of an ICCID

-- halves that the characters stand for, and F behind the last
digits_back : (hs t : List ℕ) → length t ≤ length hs → AllDigits t → ((j : ℕ) → j < length hs → hs ! j ≡ half_of (character_at t j)) → digits_of hs ≡ t
unfolding digits_of
digits_back [] [] long each from = refl
digits_back [] (c ∷ t) long each from = absurd (omega (arith, long))
digits_back (h ∷ hs) [] long each from =
    ap (λ (l : List ℕ). l ++ digits_of hs) (no_digit h (from 0 (omega arith) ∙ half_beyond 0)) ∙
    digits_back hs [] (omega arith) each (λ j below. from (suc j) (omega arith) ∙ half_beyond (suc j) ∙ sym (half_beyond j))
digits_back (h ∷ hs) (c ∷ t) long each from =
    let digit = each 0 (omega arith) in
    let is : h ≡ half_of c = from 0 (omega arith) ∙ ap half_of (first_of_lem c t) in
    let back = digit_half c digit.0 digit.1 in
    one_more h hs (omega (arith, is, back, digit)) ∙
    ap₂ ◌∷◌ (omega (arith, is, back))
    (digits_back hs t (omega (arith, long)) (λ i below. each (suc i) (omega arith)) (λ j below. from (suc j) (omega arith) ∙ ap half_of (next_of c j t)))

low : (t : List ℕ) (j k : ℕ) → j ≡ 2 * k → k < 10 → halves (tabulate 10 (byte_from t)) ! j ≡ half_of (character_at t j)
unfolding byte_from
low t j k even below =
    let small = half_small (character_at t (2 * k)) in
    rw even (half_low (tabulate 10 (byte_from t)) k ∙ ap (λ (b : ℕ). b % 16) (tabulate_at 10 (byte_from t) k below) ∙ omega (arith, small))

high : (t : List ℕ) (j k : ℕ) → j ≡ 2 * k + 1 → k < 10 → halves (tabulate 10 (byte_from t)) ! j ≡ half_of (character_at t j)
unfolding byte_from
high t j k odd below =
    let small = half_small (character_at t (2 * k)) in
    rw odd (half_high (tabulate 10 (byte_from t)) k ∙ ap (λ (b : ℕ). b / 16) (tabulate_at 10 (byte_from t) k below) ∙ omega (arith, small))

half_from : (t : List ℕ) (j : ℕ) → j < 20 → halves (tabulate 10 (byte_from t)) ! j ≡ half_of (character_at t j)
half_from t j below =
    ⊎_elim (λ (even : j ≡ 2 * (j / 2)). low t j (j / 2) even (omega arith)) (λ (odd : j ≡ 2 * (j / 2) + 1). high t j (j / 2) odd (omega arith)) (parity j)

-- the label of an ICCID has its digits
pub iccid_back : (t : List ℕ) → (length t ≡ 20) ⊎ (length t ≡ 19) → AllDigits t → label_digits (label_from t) ≡ t
unfolding label_digits
iccid_back t long each =
    let ten = length-tabulate 10 (byte_from t) in
    let twenty : length (halves (tabulate 10 (byte_from t))) ≡ 20 = length-halves (tabulate 10 (byte_from t)) ∙ omega (arith, ten) in
    ap (λ (l : List ℕ). digits_of (halves l)) (has_bytes t (right_length t long)) ∙
    digits_back (halves (tabulate 10 (byte_from t))) t (rw twenty (short t long)) each (λ j below. half_from t j (rw twenty at below))
  where
    short : (t : List ℕ) → (length t ≡ 20) ⊎ (length t ≡ 19) → length t ≤ 20
    short t (inl twenty) = omega (arith, twenty)
    short t (inr nineteen) = omega (arith, nineteen)
