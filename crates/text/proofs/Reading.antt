-- A line made of words is read back as these words, and a text made of lines as these lines. Assumes nothing.
use Prim.Native.Nat.{ℕ, ◌+◌, ◌/◌, ◌%◌, ◌≤◌, ◌<◌}
use mathlib.Core.Path.{◌≡◌, refl, sym, ap, ◌∙◌}
use mathlib.Core.Bool.{Bool, true, false, cond, ◌&&◌}
use mathlib.Core.List.{List, [], ◌∷◌, ◌++◌, append-nil, append_assoc}
use native.Mathlib.Nat.{zero-add, add_assoc}
use native.Mathlib.Omega.{arith}
use lib.Dec.{ltb, eqb}
use lib.ListN.{length}
use borrow.Author.Tests.{ltb-true, lt-ltb, eq-eqb, ne_eqb}
use Rattle.slices.proofs.Booleans.{and_left, and_right, and_both}
use Rattle.text.specs.Text.{last_digit, decimal, line_feed}
use Rattle.text.specs.Reading.{onto, pieces, lines, words, count}
use Rattle.text.proofs.Decimal.{by_digits}

-- ---- bytes above a mark

unfoldable pub above : ℕ → List ℕ → Bool
above mark [] = true
above mark (b ∷ l) = ltb mark b && above mark l

pub above_append : (mark : ℕ) (l k : List ℕ) → above mark l ≡ true → above mark k ≡ true → above mark (l ++ k) ≡ true
unfolding above
above_append mark [] k hl hk = hk
above_append mark (b ∷ l) k hl hk =
    and_both (ltb mark b) (above mark (l ++ k)) (and_left (ltb mark b) (above mark l) hl) (above_append mark l k (and_right (ltb mark b) (above mark l) hl) hk)

pub above_lower : (low high : ℕ) (l : List ℕ) → low ≤ high → above high l ≡ true → above low l ≡ true
unfolding above
above_lower low high [] h e = refl
above_lower low high (b ∷ l) h e =
    let higher = ltb-true high b (and_left (ltb high b) (above high l) e) in
    and_both (ltb low b) (above low l) (lt-ltb low b (omega arith)) (above_lower low high l h (and_right (ltb high b) (above high l) e))

-- ---- one piece

-- a byte above the mark is not the mark
other : (mark b : ℕ) (l : List ℕ) → above mark (b ∷ l) ≡ true → eqb b mark ≡ false
unfolding above
other mark b l e = let higher = ltb-true mark b (and_left (ltb mark b) (above mark l) e) in ne_eqb b mark (λ same. absurd (omega (arith, higher, same)))

onto_rest : (mark b : ℕ) (l : List ℕ) → eqb b mark ≡ false → pieces mark (b ∷ l) ≡ onto b (pieces mark l)
unfolding pieces
onto_rest mark b l e = ap (λ (c : Bool). cond c ([] ∷ pieces mark l) (onto b (pieces mark l))) e

pub piece_first : (mark : ℕ) (l t : List ℕ) → above mark l ≡ true → pieces mark (l ++ (mark ∷ t)) ≡ l ∷ pieces mark t
unfolding pieces onto above
piece_first mark [] t e = simp (eq-eqb mark mark refl)
piece_first mark (b ∷ l) t e = onto_rest mark b (l ++ (mark ∷ t)) (other mark b l e) ∙ ap (onto b) (piece_first mark l t (and_right (ltb mark b) (above mark l) e))

pub piece_last : (mark b : ℕ) (l : List ℕ) → above mark (b ∷ l) ≡ true → pieces mark (b ∷ l) ≡ (b ∷ l) ∷ []
unfolding pieces onto above
piece_last mark b [] e = onto_rest mark b [] (other mark b [] e)
piece_last mark b (d ∷ l) e = onto_rest mark b (d ∷ l) (other mark b (d ∷ l) e) ∙ ap (onto b) (piece_last mark d l (and_right (ltb mark b) (above mark (d ∷ l)) e))

-- ---- words

-- bytes above the space, and not none
pub record Word (w : List ℕ) : Type 0 where
  pub plain : above 32 w ≡ true
  pub some : 0 < length w

-- by computing
pub word_of : (w : List ℕ) → (above 32 w && ltb 0 (length w)) ≡ true → Word w
word_of w e = record { plain = and_left (above 32 w) (ltb 0 (length w)) e; some = ltb-true 0 (length w) (and_right (above 32 w) (ltb 0 (length w)) e) }

-- a digit more before others
no_digit : above 32 [] ≡ true
unfolding above
no_digit = refl

digit : (k : ℕ) (w : List ℕ) → above 32 w ≡ true → above 32 (last_digit k ∷ w) ≡ true
unfolding above last_digit
digit k w e = and_both (ltb 32 (48 + k % 10)) (above 32 w) (lt-ltb 32 (48 + k % 10) (omega arith)) e

pub word-decimal : (k : ℕ) → Word (decimal k)
word-decimal k =
    by_digits Word k (λ one. record { plain = digit k [] no_digit; some = omega arith })
    (λ more two. record { plain = digit (k / 10) _ (digit k [] no_digit); some = omega arith })
    (λ more three. record { plain = digit (k / 100) _ (digit (k / 10) _ (digit k [] no_digit)); some = omega arith })
    (λ four. record { plain = digit (k / 1000) _ (digit (k / 100) _ (digit (k / 10) _ (digit k [] no_digit))); some = omega arith })

word_alone : (w : List ℕ) → Word w → words w ≡ w ∷ []
word_alone [] h = absurd (omega (arith, h.some))
word_alone (b ∷ w) h = piece_last 32 b w h.plain

-- words with a space between two
unfoldable pub spaced : List ℕ → List (List ℕ) → List ℕ
spaced w [] = w
spaced w (v ∷ vs) = w ++ (32 ∷ spaced v vs)

-- each of them a word
pub data Words : List (List ℕ) → Type 0 where
  no_more : Words []
  one_more : {w : List ℕ} {ws : List (List ℕ)} → Word w → Words ws → Words (w ∷ ws)

pub words_spaced : (w : List ℕ) (ws : List (List ℕ)) → Words (w ∷ ws) → words (spaced w ws) ≡ w ∷ ws
unfolding spaced
words_spaced w [] (one_more h no_more) = word_alone w h
words_spaced w (v ∷ vs) (one_more h hs) = piece_first 32 w (spaced v vs) h.plain ∙ ap (λ (l : List (List ℕ)). w ∷ l) (words_spaced v vs hs)

-- ---- lines

-- no line feed is among words and spaces
spaced_above : (w : List ℕ) (ws : List (List ℕ)) → Words (w ∷ ws) → above 10 (spaced w ws) ≡ true
unfolding spaced above
spaced_above w [] (one_more h no_more) = above_lower 10 32 w (omega arith) h.plain
spaced_above w (v ∷ vs) (one_more h hs) = above_append 10 w (32 ∷ spaced v vs) (above_lower 10 32 w (omega arith) h.plain) (spaced_above v vs hs)

-- a line of these words, ended by a line feed
pub record LineOf (line w : List ℕ) (ws : List (List ℕ)) : Type 0 where
  pub made_of : line ≡ spaced w ws ++ line_feed
  pub of_words : Words (w ∷ ws)

pub line_first : (line w : List ℕ) (ws : List (List ℕ)) (t : List ℕ) → LineOf line w ws → lines (line ++ t) ≡ spaced w ws ∷ lines t
unfolding line_feed
line_first line w ws t h =
    ap (λ (l : List ℕ). lines (l ++ t)) h.made_of ∙
    ap lines (append_assoc (spaced w ws) (10 ∷ []) t) ∙
    piece_first 10 (spaced w ws) t (spaced_above w ws h.of_words)

pub line_alone : (line w : List ℕ) (ws : List (List ℕ)) → LineOf line w ws → lines line ≡ spaced w ws ∷ []
unfolding pieces
line_alone line w ws h = ap lines (sym (append-nil line)) ∙ line_first line w ws [] h

-- ---- counts

pub count-append : (test : List ℕ → Bool) (k l : List (List ℕ)) → count test (k ++ l) ≡ count test k + count test l
unfolding count
count-append test [] l = sym (zero-add _)
count-append test (x ∷ k) l = ap (λ (n : ℕ). cond (test x) 1 0 + n) (count-append test k l) ∙ sym (add_assoc _ _ _)
