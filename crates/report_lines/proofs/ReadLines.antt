-- The lines of the report read back: their words, and which of them are round lines with a word. Assumes nothing.
use Prim.Native.Nat.{ℕ, ◌<◌}
use mathlib.Core.Path.{◌≡◌, refl, ap, ◌∙◌}
use mathlib.Core.Bool.{Bool, true, false, cond, not, ◌&&◌, ◌||◌}
use mathlib.Core.List.{List, [], ◌∷◌, ◌++◌, append_assoc}
use native.Mathlib.Omega.{arith}
use lib.Dec.{eqb}
use Rattle.slices.specs.Slices.{same}
use Rattle.slices.proofs.Sameness.{same_refl, same_differs}
use Rattle.text.specs.Text.{decimal, numbered, line_feed}
use Rattle.text.specs.Reading.{lines, is_one_of, count}
use Rattle.text.proofs.Decimal.{decimal_digit}
use Rattle.text.proofs.Reading.{above, Word, word_of, word-decimal, spaced, Words, no_more, one_more, words_spaced, LineOf, line_first, line_alone}
use Rattle.report_lines.specs.ReportLines.{round_word, challenge_word, space_word, accept_word, reject_word, verdict_start, of_word, rounds_word, accepted_word, rejected_word, refused_word, verdict_word, round_line, verdict_line, totals_line, refused_line}
use Rattle.report_lines.specs.ReadLines.{round_name, verdict_name, of_name, rounds_name, accepted_name, rejected_name, refused_name, is_round_with, rounds_with}

-- ---- the words

unfoldable pub challenge_name : List ℕ
challenge_name = 99 ∷ 104 ∷ 97 ∷ 108 ∷ 108 ∷ 101 ∷ 110 ∷ 103 ∷ 101 ∷ []

word_verdict : (accepted : Bool) → Word (verdict_word accepted)
unfolding above verdict_word accept_word reject_word
word_verdict true = word_of accept_word refl
word_verdict false = word_of reject_word refl

pub round_words : (round challenge : ℕ) (accepted : Bool) →
    LineOf (round_line round challenge accepted) round_name (decimal round ∷ challenge_name ∷ decimal challenge ∷ verdict_word accepted ∷ [])
unfolding above spaced round_line numbered round_word challenge_word space_word round_name challenge_name
round_words round challenge accepted =
    record {
      made_of =
          ap (λ (l : List ℕ). l ++ line_feed)
          (append_assoc (numbered round_word round) (numbered challenge_word challenge) (space_word ++ verdict_word accepted));
      of_words =
          one_more (word_of round_name refl)
          (one_more (word-decimal round) (one_more (word_of challenge_name refl) (one_more (word-decimal challenge) (one_more (word_verdict accepted) no_more))));
    }

pub verdict_words : (accepted rounds : ℕ) →
    LineOf (verdict_line accepted rounds) verdict_name (verdict_word (eqb accepted rounds) ∷ decimal accepted ∷ of_name ∷ decimal rounds ∷ [])
unfolding above spaced verdict_line numbered verdict_start space_word of_word verdict_name of_name
verdict_words accepted rounds =
    record {
      made_of = refl;
      of_words =
          one_more (word_of verdict_name refl)
          (one_more (word_verdict (eqb accepted rounds)) (one_more (word-decimal accepted) (one_more (word_of of_name refl) (one_more (word-decimal rounds) no_more))));
    }

pub totals_words : (accepted rejected : ℕ) →
    LineOf (totals_line accepted rejected) rounds_name (decimal accepted ∷ accepted_name ∷ decimal rejected ∷ rejected_name ∷ [])
unfolding above spaced totals_line numbered rounds_word accepted_word rejected_word rounds_name accepted_name rejected_name
totals_words accepted rejected =
    record {
      made_of = ap (λ (l : List ℕ). l ++ line_feed) (append_assoc (numbered rounds_word accepted) (numbered accepted_word rejected) rejected_word);
      of_words =
          one_more (word_of rounds_name refl)
          (one_more (word-decimal accepted) (one_more (word_of accepted_name refl) (one_more (word-decimal rejected) (one_more (word_of rejected_name refl) no_more))));
    }

pub refused_words : (refusal : ℕ) → LineOf (refused_line refusal) refused_name (decimal refusal ∷ [])
unfolding above spaced refused_line numbered refused_word refused_name
refused_words refusal = record { made_of = refl; of_words = one_more (word_of refused_name refl) (one_more (word-decimal refusal) no_more) }

-- ---- the lines as they are read, without their line feeds

abbrev pub round_read : ℕ → ℕ → Bool → List ℕ
round_read round challenge accepted = spaced round_name (decimal round ∷ challenge_name ∷ decimal challenge ∷ verdict_word accepted ∷ [])

abbrev pub verdict_read : ℕ → ℕ → List ℕ
verdict_read accepted rounds = spaced verdict_name (verdict_word (eqb accepted rounds) ∷ decimal accepted ∷ of_name ∷ decimal rounds ∷ [])

abbrev pub totals_read : ℕ → ℕ → List ℕ
totals_read accepted rejected = spaced rounds_name (decimal accepted ∷ accepted_name ∷ decimal rejected ∷ rejected_name ∷ [])

pub end_lines : (accepted rounds x y : ℕ) → lines (verdict_line accepted rounds ++ totals_line x y) ≡ verdict_read accepted rounds ∷ totals_read x y ∷ []
end_lines accepted rounds x y =
    line_first (verdict_line accepted rounds) _ _ (totals_line x y) (verdict_words accepted rounds) ∙
    ap (λ (l : List (List ℕ)). verdict_read accepted rounds ∷ l) (line_alone (totals_line x y) _ _ (totals_words x y))

-- ---- which are round lines with a word

-- by the words of a line
by_words : (word w : List ℕ) (ws : List (List ℕ)) → Words (w ∷ ws) → is_round_with word (spaced w ws) ≡ (same round_name w && is_one_of word (w ∷ ws))
unfolding is_round_with
by_words word w ws h = rw (words_spaced w ws h)

-- no word that begins with a letter is a number
no_number : (b : ℕ) (w : List ℕ) (k : ℕ) → 57 < b → same (b ∷ w) (decimal k) ≡ false
no_number b w k letter = same_differs (b ∷ w) (decimal k) 0 (λ e. absurd (omega (arith, letter, decimal_digit k, e)))

-- the words of a round line beside the one looked for
no_round : (said : Bool) → same (verdict_word said) round_name ≡ false
unfolding same round_name verdict_word accept_word reject_word
no_round true = refl
no_round false = refl

no_challenge : (said : Bool) → same (verdict_word said) challenge_name ≡ false
unfolding same challenge_name verdict_word accept_word reject_word
no_challenge true = refl
no_challenge false = refl

no_decimal : (said : Bool) (k : ℕ) → same (verdict_word said) (decimal k) ≡ false
unfolding verdict_word accept_word reject_word
no_decimal true k = no_number 97 _ k (omega arith)
no_decimal false k = no_number 114 _ k (omega arith)

same_verdict : (said accepted : Bool) → same (verdict_word said) (verdict_word accepted) ≡ cond said accepted (not accepted)
unfolding same verdict_word accept_word reject_word
same_verdict true true = refl
same_verdict true false = refl
same_verdict false true = refl
same_verdict false false = refl

or-false : (t : Bool) → (t || false) ≡ t
or-false true = refl
or-false false = refl

-- a round line has the word that it says, and not the other
pub round_with : (said : Bool) (round challenge : ℕ) (accepted : Bool) →
    is_round_with (verdict_word said) (round_read round challenge accepted) ≡ cond said accepted (not accepted)
unfolding is_one_of
round_with said round challenge accepted =
    by_words (verdict_word said) round_name _ (round_words round challenge accepted).of_words ∙
    simp (same_refl round_name, no_round said, no_decimal said round, no_challenge said, no_decimal said challenge, same_verdict said accepted) (or-false _)

-- what begins with another word is no round line
pub other_line : (word w : List ℕ) (ws : List (List ℕ)) → Words (w ∷ ws) → same round_name w ≡ false → is_round_with word (spaced w ws) ≡ false
other_line word w ws h other = by_words word w ws h ∙ rw other

-- neither the verdict nor the totals are
pub no_rounds_at_end : (word : List ℕ) (accepted rounds x y : ℕ) → rounds_with word (verdict_line accepted rounds ++ totals_line x y) ≡ 0
unfolding rounds_with count same round_name verdict_name rounds_name
no_rounds_at_end word accepted rounds x y =
    ap (count (is_round_with word)) (end_lines accepted rounds x y) ∙
    simp (other_line word verdict_name _ (verdict_words accepted rounds).of_words refl, other_line word rounds_name _ (totals_words x y).of_words refl)
