-- What stands at each place of a tabulated list and of a vector, and how a loop fills one. Assumes nothing.
use Prim.Native.Nat.{ℕ, ◌+◌, ◌-◌, ◌≤◌, ◌<◌, min}
use mathlib.Core.Path.{◌≡◌, sym, ap, ap₂, subst, ◌∙◌}
use mathlib.Core.Bool.{cond}
use mathlib.Core.List.{List, ◌++◌}
use mathlib.Core.Logic.{⊎_elim}
use native.Mathlib.Nat.{not-suc-le-zero, le_of_suc-le-suc, eq-or-lt_of_le, lt_of_not-le}
use native.Mathlib.Decide.{dec_le}
use native.Mathlib.Numerals.{add-one}
use native.Mathlib.Omega.{arith}
use lib.Dec.{ltb}
use lib.ListN.{length, set, replicate, take, drop, length-set, length-append, length-drop, length-replicate, get_or-append, get_or-replicate, get_or-eq_default}
use lib.Seq.{get_or-append-add, get_or-set_same, get_or-set_other, get_or-take, get_or-drop, length-take-le}
use borrow.Author.Tests.{lt-ltb, le-ltb}
use Rattle.slices.specs.Slices.{◌!◌}
use Rattle.slices.proofs.Parts.{part_most}
use Rattle.slices.proofs.Tabulate.{length-tabulate, tabulate_at, tabulate_beyond, tabulate_of}
use Rattle.field.specs.Ops.{Ops}
use Rattle.field.specs.Vector.{vector, as_vector, IsVector}
use Rattle.field.specs.Combined.{Combined}
use Rattle.field.proofs.Elements.{everywhere}

-- ---- vectors

pub length-vector : (n : ℕ) (f : ℕ → ℕ) → length (vector n f) ≡ 96
unfolding vector
length-vector n f = length-tabulate 96 _

inside : (n : ℕ) (f : ℕ → ℕ) (i : ℕ) → i < n → cond (ltb i n) (f i) 0 ≡ f i
inside n f i h = simp (lt-ltb i n h)

outside : (n : ℕ) (f : ℕ → ℕ) (i : ℕ) → n ≤ i → cond (ltb i n) (f i) 0 ≡ 0
outside n f i h = simp (le-ltb i n h)

pub vector_at : (n : ℕ) (f : ℕ → ℕ) (i : ℕ) → i < n → i < 96 → vector n f ! i ≡ f i
unfolding vector
vector_at n f i h k = tabulate_at 96 _ i k ∙ inside n f i h

pub vector_beyond : (n : ℕ) (f : ℕ → ℕ) (i : ℕ) → n ≤ i → vector n f ! i ≡ 0
unfolding vector
vector_beyond n f i h =
    elim (dec_le 96 i) [
      | yes k ↦ tabulate_beyond 96 _ i k
      | no k ↦ tabulate_at 96 _ i (lt_of_not-le k) ∙ outside n f i h
    ]

-- a list of 96 numbers is a vector where its first n are f's and the others 0
pub vector_of : (l : List ℕ) (n : ℕ) (f : ℕ → ℕ) → length l ≡ 96 → ((i : ℕ) → i < n → i < 96 → l ! i ≡ f i) → ((i : ℕ) → n ≤ i → i < 96 → l ! i ≡ 0) → l ≡ vector n f
unfolding vector
vector_of l n f len low high =
    tabulate_of l 96 _ len (λ i k.
    elim (dec_le n i) [
      | yes h ↦ high i h k ∙ sym (outside n f i h)
      | no h ↦ low i (lt_of_not-le h) k ∙ sym (inside n f i (lt_of_not-le h))
    ])

pub vector_cong : (n : ℕ) (f g : ℕ → ℕ) → ((i : ℕ) → i < n → i < 96 → f i ≡ g i) → vector n f ≡ vector n g
vector_cong n f g same =
    vector_of (vector n f) n g (length-vector n f) (λ i h k. vector_at n f i h k ∙ same i h k) (λ i h k. vector_beyond n f i h)

-- the vector of what there is of a part
pub vector_part : (l p : List ℕ) (place n : ℕ) → p ≡ take n (drop place l) → as_vector p ≡ vector n (λ i. l ! (place + i))
vector_part l p place n is =
    vector_of (as_vector p) n _ (length-vector (length p) _) within
    (λ i h k. vector_beyond (length p) _ i (omega (arith, h, part_most l p place n is)))
  where
    held : (i : ℕ) → i < 96 → as_vector p ! i ≡ p ! i
    held i k =
        elim (dec_le (length p) i) [
          | yes beyond ↦ vector_beyond (length p) _ i beyond ∙ sym (get_or-eq_default p 0 beyond)
          | no inside ↦ vector_at (length p) _ i (lt_of_not-le inside) k
        ]

    within : (i : ℕ) → i < n → i < 96 → as_vector p ! i ≡ l ! (place + i)
    within i h k = held i k ∙ ap (λ (t : List ℕ). t ! i) is ∙ get_or-take n (drop place l) i 0 h ∙ get_or-drop place l i 0

-- the front of a list, copied over 96 zeros
pub copied_vector : (s z p : List ℕ) (end : ℕ) → end ≡ min (length s) 96 → p ≡ take end s → z ≡ p ++ drop end (replicate 96 0) → z ≡ as_vector s
copied_vector s z p end small front whole = vector_of z (length s) (λ i. s ! i) long low high
  where
    count : length p ≡ end
    count = ap length front ∙ length-take-le end s (omega arith)

    long : length z ≡ 96
    long = ap length whole ∙ simp (length-append, length-drop, length-replicate {A = ℕ} 96 0) (omega (arith, count))

    low : (i : ℕ) → i < length s → i < 96 → z ! i ≡ s ! i
    low i h k =
        ap (λ (t : List ℕ). t ! i) whole ∙ get_or-append p (drop end (replicate 96 0)) 0 i (omega (arith, count)) ∙
        ap (λ (t : List ℕ). t ! i) front ∙ get_or-take end s i 0 (omega arith)

    high : (i : ℕ) → length s ≤ i → i < 96 → z ! i ≡ 0
    high i h k =
        let at : i ≡ length p + (i - length p) = omega (arith, count) in
        ap₂ (λ (t : List ℕ) (j : ℕ). t ! j) whole at ∙ get_or-append-add p (drop end (replicate 96 0)) (i - length p) 0 ∙
        get_or-drop end (replicate 96 0) (i - length p) 0 ∙ get_or-replicate {A = ℕ} 96 (end + (i - length p)) 0 0 (omega (arith, count))

-- what is read of a vector is an element, wherever it is read
pub element_at : (o : Ops) (n : ℕ) (x : List ℕ) → IsVector o n x → (i : ℕ) → x ! i < o.size
element_at o n x k i =
    let whole : length x ≡ 96 = ap length k.padded ∙ length-vector n (λ j. x ! j) in
    let first : x ! 0 < o.size = k.elements 0 (omega (arith, whole)) in
    everywhere o.size x (omega (arith, first)) k.elements i

-- ---- a loop that fills a vector from the front

pub vector_start : (f : ℕ → ℕ) → replicate 96 0 ≡ vector 0 f
vector_start f =
    vector_of (replicate 96 0) 0 f (length-replicate {A = ℕ} 96 0) (λ i h k. absurd (not-suc-le-zero h)) (λ i h k. get_or-replicate {A = ℕ} 96 i 0 0 k)

pub vector_step : (l : List ℕ) (f : ℕ → ℕ) (i v : ℕ) → l ≡ vector i f → i < 96 → v ≡ f i → set l i v ≡ vector (i + 1) f
vector_step l f i v e k ev =
    vector_of (set l i v) (i + 1) f
    (length-set l i v ∙ ap length e ∙ length-vector i f)
    (λ j h kj.
    ⊎_elim (λ (same : j ≡ i). rw same (get_or-set_same l i v 0 (rw (ap length e ∙ length-vector i f) k) ∙ ev))
    (λ (less : j < i). get_or-set_other l i j v 0 (omega arith) ∙ ap (λ (t : List ℕ). t ! j) e ∙ vector_at i f j less kj)
    (eq-or-lt_of_le (le_of_suc-le-suc (rw add-one at h))))
    (λ j h kj. get_or-set_other l i j v 0 (omega arith) ∙ ap (λ (t : List ℕ). t ! j) e ∙ vector_beyond i f j (omega arith))

-- at the shorter of n and 96 the vector is whole
pub vector_end : (l : List ℕ) (f : ℕ → ℕ) (i n : ℕ) → l ≡ vector i f → i ≡ min n 96 → l ≡ vector n f
vector_end l f i n e end =
    e ∙
    vector_of (vector i f) n f (length-vector i f) (λ k h below. vector_at i f k (omega arith) below) (λ k h below. vector_beyond i f k (omega arith))

-- ---- a loop that fills a vector with what a function gives at each place of two others

module _ (f : ℕ → ℕ → ℕ → Type 0) (x y : List ℕ) where
  pub combined_start : Combined f 0 x y (replicate 96 0)
  combined_start =
      record {
        whole = length-replicate {A = ℕ} 96 0;
        given = λ i h k. absurd (not-suc-le-zero h);
        beyond = λ i h. zeros_at i;
      }
    where
      zeros_at : (i : ℕ) → replicate 96 0 ! i ≡ 0
      zeros_at i =
          elim (dec_le 96 i) [
            | yes k ↦ let past : length (replicate {A = ℕ} 96 0) ≤ i = omega arith in get_or-eq_default (replicate 96 0) 0 past
            | no k ↦ get_or-replicate {A = ℕ} 96 i 0 0 (lt_of_not-le k)
          ]

  pub combined_step : (z : List ℕ) (i v : ℕ) → Combined f i x y z → i < 96 → f (x ! i) (y ! i) v → Combined f (i + 1) x y (set z i v)
  combined_step z i v c k now =
      record {
        whole = length-set z i v ∙ c.whole;
        given = λ j h kj.
            ⊎_elim (λ (same : j ≡ i). subst (λ (m : ℕ). f (x ! m) (y ! m) (set z i v ! m)) (sym same)
            (subst (λ (r : ℕ). f (x ! i) (y ! i) r) (sym (get_or-set_same z i v 0 (rw c.whole k))) now))
            (λ (less : j < i). subst (λ (r : ℕ). f (x ! j) (y ! j) r) (sym (get_or-set_other z i j v 0 (omega arith))) (c.given j less kj))
            (eq-or-lt_of_le (le_of_suc-le-suc (rw add-one at h)));
        beyond = λ j h. get_or-set_other z i j v 0 (omega arith) ∙ c.beyond j (omega arith);
      }

  -- at the shorter of n and 96 the vector is whole
  pub combined_end : (z : List ℕ) (i n : ℕ) → Combined f i x y z → i ≡ min n 96 → Combined f n x y z
  combined_end z i n c end =
      record {
        whole = c.whole;
        given = λ j h k. c.given j (omega arith) k;
        beyond = λ j h. c.beyond j (omega arith);
      }

  -- where the function gives one value at each place, the vector is that of these
  pub combined_vector : (z : List ℕ) (n : ℕ) (g : ℕ → ℕ) → Combined f n x y z → ((i r : ℕ) → i < 96 → f (x ! i) (y ! i) r → r ≡ g i) → z ≡ vector n g
  combined_vector z n g c one = vector_of z n g c.whole (λ i h k. one i (z ! i) k (c.given i h k)) (λ i h k. c.beyond i h)
