-- Laws of a system's layout: widths, where a row of coefficients starts, and what a system that is not refused is. Assumes nothing.
use Prim.Native.Nat.{ℕ, zero, suc, ◌+◌, ◌-◌, ◌*◌, ◌/◌, ◌≤◌, ◌<◌}
use mathlib.Core.Path.{◌≡◌, refl, sym, ap, ◌∙◌}
use mathlib.Core.Bool.{Bool, true, ◌&&◌}
use mathlib.Core.List.{List, [], ◌∷◌}
use native.Mathlib.Nat.{mul-le-mul, le_refl, le_of_eq, not-suc-le-zero, eq-or-lt_of_le, le_of_suc-le-suc}
use mathlib.Core.Logic.{⊎_elim}
use native.Mathlib.Omega.{arith}
use lib.Dec.{T, leb, eqb, leb→le, le→leb}
use lib.ListN.{length, take, drop, length-drop}
use lib.Seq.{take_all}
use borrow.Author.Tests.{leb-true, eqb-true, le-leb, lt-leb, eq-eqb}
use Rattle.slices.specs.Slices.{◌!◌}
use Rattle.slices.proofs.Booleans.{and_left, and_right}
use Rattle.refusal.specs.Refusal.{unless, ◌or_else◌}
use Rattle.refusal.proofs.Refusals.{first_zero, later_zero, later_decides, test_holds, unless_holds, unless_most, or_else_most}
use Rattle.field.specs.Ops.{is_field}
use Rattle.field.specs.Vector.{all_below}
use Rattle.field.proofs.Elements.{all_below_at, at_all_below}
use Rattle.system.specs.System.{q_of, n_of, m_of, width, system_length, is_size, are_sizes, has_sizes, system_refusal, system_against, WellFormedSystem, triangle}

-- ---- widths

pub product_bound : (n k : ℕ) → n ≤ k → n * (n + 1) ≤ k * (k + 1)
product_bound n k h = mul-le-mul h (omega arith)

pub width_bound : (n k : ℕ) → n ≤ k → width n ≤ width k
unfolding width
width_bound n k h = omega (arith, product_bound n k h)

-- what is multiplied for a width, and for a length, where n and m are any bytes
pub square_fits : (n : ℕ) → n ≤ 255 → n * (n + 1) ≤ 65280
square_fits n h = product_bound n 255 h

pub polynomials_fit : (n m : ℕ) → n ≤ 255 → m ≤ 255 → m * width n ≤ 8388225
unfolding width
polynomials_fit n m hn hm = mul-le-mul hm (width_bound n 255 hn)

-- ---- the triangle of quadratic coefficients

twice_triangle : (n i : ℕ) → i ≤ n → 2 * triangle n i + i * i ≡ 2 * (n * i) + i
unfolding triangle
twice_triangle n zero h = omega arith
twice_triangle n (suc i) h = omega (arith, twice_triangle n i (omega arith))

pub triangle_whole : (n : ℕ) → triangle n n ≡ n * (n + 1) / 2
triangle_whole n = omega (arith, twice_triangle n n (le_refl n))

pub width_is : (n : ℕ) → width n ≡ triangle n n + n
unfolding width
width_is n = ap (λ (k : ℕ). k + n) (sym (triangle_whole n))

pub triangle_bound : (n : ℕ) → n ≤ 96 → triangle n n ≤ 4656
triangle_bound n h = omega (arith, triangle_whole n, product_bound n 96 h)

-- the row of i ends where the next starts, and that is at most where a later one does
pub triangle_next : (n i j : ℕ) → i < j → triangle n i + (n - i) ≤ triangle n j
unfolding triangle
triangle_next n i zero h = absurd (not-suc-le-zero h)
triangle_next n i (suc j) h =
    ⊎_elim (λ (e : i ≡ j). rw e (le_refl _)) (λ (l : i < j). omega (arith, triangle_next n i j l)) (eq-or-lt_of_le (le_of_suc-le-suc h))

-- ---- what decides a refusal

pub refusal_by : (b : List ℕ) (front sizes whole elements : Bool) →
    leb 3 (length b) ≡ front → are_sizes (q_of b) (n_of b) (m_of b) ≡ sizes → eqb (length b) (system_length (n_of b) (m_of b)) ≡ whole →
    all_below (q_of b) (drop 3 b) ≡ elements →
    (unless front 2 or_else unless sizes 1 or_else unless whole 2 or_else unless elements 3) ≡ system_refusal b
unfolding system_refusal
refusal_by b front sizes whole elements e f g h = rw (e, f, g, h)

pub too_short : (b : List ℕ) → length b < 3 → 2 ≡ system_refusal b
unfolding system_refusal unless ◌or_else◌
too_short b h = simp (lt-leb 3 _ h)

-- of three bytes and more; the coefficients are all that is left after three
pub of_parts : (b : List ℕ) → 3 ≤ length b → system_refusal b ≡
    (unless (are_sizes (q_of b) (n_of b) (m_of b)) 1 or_else
    unless (eqb (length b) (system_length (n_of b) (m_of b))) 2 or_else
    unless (all_below (q_of b) (take (length b - 3) (drop 3 b))) 3)
unfolding system_refusal
of_parts b h =
    rw (take_all (length b - 3) (drop 3 b) (le_of_eq (length-drop 3 b))) (later_decides _ _ (unless_holds (leb 3 (length b)) 2 (le-leb 3 _ h)))

-- ---- a system that is not refused

-- q, n and m are among their values
pub record Sizes (q n m : ℕ) : Type 0 where
  pub q_is_field : is_field q ≡ true
  pub n_low : 1 ≤ n
  pub n_high : n ≤ 96
  pub m_low : 1 ≤ m
  pub m_high : m ≤ 96

pub sizes : (q n m : ℕ) → are_sizes q n m ≡ true → Sizes q n m
unfolding are_sizes is_size
sizes q n m h =
    let n_and_m = and_right (is_field q) (is_size n && is_size m) h in
    let n_size = and_left (is_size n) (is_size m) n_and_m in
    let m_size = and_right (is_size n) (is_size m) n_and_m in
    record {
      q_is_field = and_left (is_field q) (is_size n && is_size m) h;
      n_low = leb-true 1 n (and_left (leb 1 n) (leb n 96) n_size);
      n_high = leb-true n 96 (and_right (leb 1 n) (leb n 96) n_size);
      m_low = leb-true 1 m (and_left (leb 1 m) (leb m 96) m_size);
      m_high = leb-true m 96 (and_right (leb 1 m) (leb m 96) m_size);
    }

pub record Accepted (b : List ℕ) : Type 0 where
  pub front : 3 ≤ length b
  pub q_is_field : is_field (q_of b) ≡ true
  pub n_low : 1 ≤ n_of b
  pub n_high : n_of b ≤ 96
  pub m_low : 1 ≤ m_of b
  pub m_high : m_of b ≤ 96
  pub whole : length b ≡ 3 + m_of b * width (n_of b)
  pub elements : all_below (q_of b) (drop 3 b) ≡ true

pub accepted : (b : List ℕ) → system_refusal b ≡ 0 → Accepted b
unfolding system_refusal system_length
accepted b h =
    let k = sizes (q_of b) (n_of b) (m_of b) (test_holds (are_sizes (q_of b) (n_of b) (m_of b)) 1 tt (first_zero _ _ (later_zero _ _ h))) in
    record {
      front = leb-true 3 (length b) (test_holds (leb 3 (length b)) 2 tt (first_zero _ _ h));
      q_is_field = k.q_is_field;
      n_low = k.n_low;
      n_high = k.n_high;
      m_low = k.m_low;
      m_high = k.m_high;
      whole = eqb-true (length b) (system_length (n_of b) (m_of b)) (test_holds _ 2 tt (first_zero _ _ (later_zero _ _ (later_zero _ _ h))));
      elements = test_holds (all_below (q_of b) (drop 3 b)) 3 tt (later_zero _ _ (later_zero _ _ (later_zero _ _ h)));
    }

pub three_bytes : (b : List ℕ) → system_refusal b ≡ 0 → 3 ≤ length b
three_bytes b h = (accepted b h).front

pub well_formed_against : (b : List ℕ) (q n m : ℕ) → 0 ≡ system_against b q n m → system_refusal b ≡ 0
unfolding system_against
well_formed_against b q n m h = first_zero _ _ (sym h)

-- the system has this q, n and m
pub has_sizes_lem : (b : List ℕ) (q n m : ℕ) → has_sizes b q n m ≡ true → (q_of b ≡ q) × (n_of b ≡ n) × (m_of b ≡ m)
unfolding has_sizes
has_sizes_lem b q n m e =
    let rest = and_right (eqb (q_of b) q) (eqb (n_of b) n && eqb (m_of b) m) e in (
      eqb-true _ _ (and_left (eqb (q_of b) q) (eqb (n_of b) n && eqb (m_of b) m) e),
      eqb-true _ _ (and_left (eqb (n_of b) n) (eqb (m_of b) m) rest),
      eqb-true _ _ (and_right (eqb (n_of b) n) (eqb (m_of b) m) rest),
    )

pub sizes_has : (b : List ℕ) (q n m : ℕ) → q_of b ≡ q → n_of b ≡ n → m_of b ≡ m → has_sizes b q n m ≡ true
unfolding has_sizes
sizes_has b q n m eq en em = rw (eq-eqb _ _ eq, eq-eqb _ _ en, eq-eqb _ _ em)

-- ---- not refused is well-formed

pub well_formed : (b : List ℕ) → system_refusal b ≡ 0 → WellFormedSystem b
well_formed b h =
    let k = accepted b h in
    record {
      q = q_of b;
      n = n_of b;
      m = m_of b;
      coefficients = drop 3 b;
      laid_out = three b k.front;
      q_is_field = k.q_is_field;
      n_size = (k.n_low, k.n_high);
      m_size = (k.m_low, k.m_high);
      count = length-drop 3 b ∙ omega arith;
      elements = all_below_at (q_of b) (drop 3 b) k.elements;
    }
  where
    three : (l : List ℕ) → 3 ≤ length l → l ≡ l ! 0 ∷ l ! 1 ∷ l ! 2 ∷ drop 3 l
    three [] h = absurd (omega arith)
    three (x ∷ []) h = absurd (omega arith)
    three (x ∷ y ∷ []) h = absurd (omega arith)
    three (x ∷ y ∷ z ∷ l) h = refl

size_true : (k : ℕ) → (1 ≤ k) × (k ≤ 96) → is_size k ≡ true
unfolding is_size
size_true k h = rw (le-leb 1 k h.0, le-leb k 96 h.1)

pub sizes_true : (q n m : ℕ) → is_field q ≡ true → (1 ≤ n) × (n ≤ 96) → (1 ≤ m) × (m ≤ 96) → are_sizes q n m ≡ true
unfolding are_sizes
sizes_true q n m e hn hm = rw (e, size_true n hn, size_true m hm)

pub not_refused : (b : List ℕ) → WellFormedSystem b → system_refusal b ≡ 0
unfolding unless ◌or_else◌ system_length
not_refused b w =
    rw w.laid_out
    (sym
    (refusal_by (w.q ∷ w.n ∷ w.m ∷ w.coefficients) true true true true
    (le-leb 3 (suc (suc (suc (length w.coefficients)))) (omega arith))
    (sizes_true w.q w.n w.m w.q_is_field w.n_size w.m_size)
    (eq-eqb (suc (suc (suc (length w.coefficients)))) (3 + w.m * width w.n) (omega (arith, w.count)))
    (at_all_below w.q w.coefficients w.elements)))

-- its first three bytes are q, n and m
pub q_is : (b : List ℕ) (w : WellFormedSystem b) → q_of b ≡ w.q
q_is b w = ap (λ (l : List ℕ). l ! 0) w.laid_out

pub n_is : (b : List ℕ) (w : WellFormedSystem b) → n_of b ≡ w.n
n_is b w = ap (λ (l : List ℕ). l ! 1) w.laid_out

pub m_is : (b : List ℕ) (w : WellFormedSystem b) → m_of b ≡ w.m
m_is b w = ap (λ (l : List ℕ). l ! 2) w.laid_out

-- no refusal of a system has a number above 3
pub system_most : (b : List ℕ) (most : ℕ) → T (leb 3 most) → system_refusal b ≤ most
unfolding system_refusal
system_most b most h =
    let three : 3 ≤ most = leb→le 3 most h in
    let one : T (leb 1 most) = le→leb 1 most (omega arith) in
    let two : T (leb 2 most) = le→leb 2 most (omega arith) in
    or_else_most _ _ most (unless_most _ 2 most two) (or_else_most _ _ most (unless_most _ 1 most one) (or_else_most _ _ most (unless_most _ 2 most two) (unless_most _ 3 most h)))

pub lent_most : (b : List ℕ) (q n m : ℕ) → system_against b q n m ≤ 9
unfolding system_against
lent_most b q n m = or_else_most _ _ 9 (system_most b 9 tt) (unless_most _ 7 9 tt)
