-- Laws of a string held in 322 bytes: how one grows, and what is read back. Assumes nothing.
use Prim.Native.Nat.{ℕ, ◌+◌, ◌-◌, ◌≤◌, ◌<◌, min}
use mathlib.Core.Path.{◌≡◌, refl, sym, ap, subst, ◌∙◌}
use mathlib.Core.List.{List, [], ◌∷◌, ◌++◌}
use native.Mathlib.Nat.{lt_of_not-le, min-eq_left}
use native.Mathlib.Decide.{dec_le}
use native.Mathlib.Omega.{arith}
use lib.ListN.{length, take, drop, set, replicate, length-append, length-drop, length-take, get_or-append, get_or-eq_default}
use lib.Seq.{ext_get_or, get_or-take, get_or-drop, get_or-append-add, length-take-le, take_all}
use Rattle.slices.specs.Slices.{◌!◌, tabulate}
use Rattle.slices.proofs.Tabulate.{length-tabulate, tabulate_at, tabulate_of}
use Rattle.commitment.specs.declared.Text.{Text}
use Rattle.commitment.specs.Commitment.{longest}
use Rattle.commitment.specs.Texts.{zero_beyond, text, content, TextOf}

pub length-zero_beyond : (l : List ℕ) → length (zero_beyond l) ≡ longest
unfolding zero_beyond
length-zero_beyond l = length-tabulate longest _

zero_beyond_at : (l : List ℕ) (i : ℕ) → i < longest → zero_beyond l ! i ≡ l ! i
unfolding zero_beyond
zero_beyond_at l i h = tabulate_at longest _ i h

start_length : (l : List ℕ) → length l ≤ longest → length (take (length l) (zero_beyond l)) ≡ length l
start_length l room = length-take-le (length l) (zero_beyond l) (rw (length-zero_beyond l) room)

-- ---- s put behind l: what stands before it, in it and after it

before : (l s t : List ℕ) (i : ℕ) → length l ≤ longest → i < length l → (take (length l) (zero_beyond l) ++ t) ! i ≡ (l ++ s) ! i
before l s t i room h =
    get_or-append (take (length l) (zero_beyond l)) t 0 i (rw (start_length l room) h) ∙ get_or-take (length l) (zero_beyond l) i 0 h ∙ zero_beyond_at l i (omega arith) ∙
    sym (get_or-append l s 0 i h)

inside : (l s t : List ℕ) (j : ℕ) → length l ≤ longest → j < length s → (take (length l) (zero_beyond l) ++ (s ++ t)) ! (length l + j) ≡ (l ++ s) ! (length l + j)
inside l s t j room h =
    ap (λ (n : ℕ). (take (length l) (zero_beyond l) ++ (s ++ t)) ! (n + j)) (sym (start_length l room)) ∙ get_or-append-add (take (length l) (zero_beyond l)) (s ++ t) j 0 ∙
    get_or-append s t 0 j h ∙
    sym (get_or-append-add l s j 0)

after : (l s : List ℕ) (j : ℕ) → length l + (length s + j) < longest →
    (take (length l) (zero_beyond l) ++ (s ++ drop (length l + length s) (zero_beyond l))) ! (length l + (length s + j)) ≡ (l ++ s) ! (length l + (length s + j))
after l s j h =
    ap (λ (n : ℕ). (take (length l) (zero_beyond l) ++ (s ++ drop (length l + length s) (zero_beyond l))) ! (n + (length s + j))) (sym (start_length l (omega arith))) ∙
    get_or-append-add (take (length l) (zero_beyond l)) _ (length s + j) 0 ∙
    get_or-append-add s _ j 0 ∙
    get_or-drop (length l + length s) (zero_beyond l) j 0 ∙
    zero_beyond_at l _ (omega arith) ∙
    get_or-eq_default l 0 (omega arith) ∙
    sym (get_or-eq_default (l ++ s) 0 long)
  where
    long : length (l ++ s) ≤ length l + (length s + j)
    long = simp length-append (omega arith)

put_at : (l s : List ℕ) (i : ℕ) → length l + length s ≤ longest → i < longest →
    (take (length l) (zero_beyond l) ++ (s ++ drop (length l + length s) (zero_beyond l))) ! i ≡ (l ++ s) ! i
put_at l s i room h =
    elim (dec_le (length l) i) [
      | no less ↦ before l s _ i (omega arith) (lt_of_not-le less)
      | yes more ↦
          elim (dec_le (length l + length s) i) [
            | no less ↦
                let e : length l + (i - length l) ≡ i = omega arith in
                rw e at (inside l s (drop (length l + length s) (zero_beyond l)) (i - length l) (omega arith) (omega (arith, lt_of_not-le less)))
            | yes beyond ↦
                let e : length l + (length s + (i - (length l + length s))) ≡ i = omega arith in
                rw e at (after l s (i - (length l + length s)) (omega arith))
          ]
    ]

joined : (l s : List ℕ) → length l + length s ≤ longest → take (length l) (zero_beyond l) ++ (s ++ drop (length l + length s) (zero_beyond l)) ≡ zero_beyond (l ++ s)
unfolding zero_beyond
joined l s room = tabulate_of _ longest (λ i. (l ++ s) ! i) long (λ i h. put_at l s i room h)
  where
    long : length (take (length l) (zero_beyond l) ++ (s ++ drop (length l + length s) (zero_beyond l))) ≡ longest
    long = simp (length-append, start_length l (omega arith), length-drop, length-zero_beyond) (omega arith)

-- a string grows by what is put behind it
pub text_put : (l s bytes r : List ℕ) (at : ℕ) → bytes ≡ zero_beyond l → length l ≡ at → at + length s ≤ longest →
    r ≡ take at bytes ++ (s ++ drop (at + length s) bytes) → r ≡ zero_beyond (l ++ s)
text_put l s bytes r at e here room er = er ∙ rw (e, ← here) (joined l s (rw (← here) at room))

-- a string starts with two bytes
pub text_start : (a b : ℕ) → set (set (replicate longest 0) 0 a) 1 b ≡ zero_beyond (a ∷ b ∷ [])
unfolding zero_beyond tabulate
text_start a b = refl

-- what is held is read back
pub take_back : (l : List ℕ) → length l ≤ longest → take (length l) (zero_beyond l) ≡ l
take_back l room =
    ext_get_or 0 (take (length l) (zero_beyond l)) l (start_length l room) (λ i h.
    let below : i < length l = rw (start_length l room) at h in
    get_or-take (length l) (zero_beyond l) i 0 below ∙ zero_beyond_at l i (omega arith))

-- a vector contributes no more than its 96 bytes
pub take-vector : (n : ℕ) (a : List ℕ) → length a ≡ 96 → take (min n 96) a ≡ take n a
take-vector n a h =
    elim (dec_le n 96) [
      | yes small ↦ ap (λ (k : ℕ). take k a) (min-eq_left small)
      | no large ↦ take_all (min n 96) a (omega (arith, lt_of_not-le large)) ∙ sym (take_all n a (omega (arith, lt_of_not-le large)))
    ]

-- ---- a string with its length

pub same_text : (bytes l : List ℕ) (len : ℕ) → bytes ≡ zero_beyond l → len ≡ length l → ◌≡◌ {A = Text} (record { bytes = bytes; len = len }) (text l)
unfolding text
same_text bytes l len e f = λ i. record { bytes = e i; len = f i }

pub text_bytes_lem : (t : Text) (l : List ℕ) → t ≡ text l → t.bytes ≡ zero_beyond l
unfolding text
text_bytes_lem t l e = ap (λ (u : Text). u.bytes) e

pub text_len : (t : Text) (l : List ℕ) → t ≡ text l → t.len ≡ length l
unfolding text
text_len t l e = ap (λ (u : Text). u.len) e

-- the string of a text that holds it
pub content_is : (l : List ℕ) (room : ℕ) (t : Text) → TextOf l room t → content t ≡ l
content_is l room t h =
    let len = text_len t l h.is in
    let long : length l ≤ longest = omega (arith, h.fits, len) in
    rw (len, text_bytes_lem t l h.is) (take_back l long)

-- a text of one string is one of another that is the same
pub text_as : (l k : List ℕ) (room : ℕ) (t : Text) → TextOf l room t → l ≡ k → TextOf k room t
text_as l k room t h e = subst (λ (s : List ℕ). TextOf s room t) e h

-- where there is room there is room for less
pub less_room : (l : List ℕ) (more room : ℕ) (t : Text) → room ≤ more → TextOf l more t → TextOf l room t
less_room l more room t less h = record { is = h.is; fits = omega (arith, h.fits, less) }

pub no_more : (l : List ℕ) (room : ℕ) (t : Text) → TextOf l room t → TextOf l 0 t
no_more l room t h = less_room l room 0 t (omega arith) h

-- of a vector at most 96 bytes are put behind a string
pub take_short : (n : ℕ) (a : List ℕ) → length a ≡ 96 → length (take n a) ≤ 96
take_short n a long = rw (length-take n a) (omega (arith, long))
