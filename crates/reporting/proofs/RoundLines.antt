-- The round lines of a report, read back and counted. Assumes nothing.
use Prim.Native.Nat.{ℕ, zero, suc, ◌+◌, ◌-◌}
use mathlib.Core.Path.{◌≡◌, refl, sym, ap, ◌∙◌}
use mathlib.Core.Bool.{Bool, true, false, cond, not}
use mathlib.Core.List.{List, [], ◌∷◌, ◌++◌, append-nil, append_assoc}
use native.Mathlib.Nat.{add-zero}
use native.Mathlib.Omega.{arith}
use lib.ListN.{length, length-append}
use Rattle.text.specs.Reading.{pieces, lines, count}
use Rattle.text.proofs.Reading.{line_first, count-append}
use Rattle.transcript.specs.Transcript.{round_challenge, accepted_round, accepted_count}
use Rattle.report_lines.specs.ReportLines.{accept_word, reject_word, verdict_word, round_line}
use Rattle.report_lines.specs.ReadLines.{is_round_with, rounds_with}
use Rattle.report_lines.proofs.ReadLines.{round_read, round_words, round_with}
use Rattle.reporting.specs.Report.{round_lines}

-- ---- the round lines

-- the first n of them as they are read, without their line feeds
unfoldable pub rounds_as_read : List ℕ → List ℕ → ℕ → List (List ℕ)
rounds_as_read system b zero = []
rounds_as_read system b (suc n) = rounds_as_read system b n ++ (round_read (n + 1) (round_challenge b n) (accepted_round system b n) ∷ [])

pub length_read : (system b : List ℕ) (n : ℕ) → length (rounds_as_read system b n) ≡ n
unfolding rounds_as_read
length_read system b zero = refl
length_read system b (suc n) = simp (length-append, length_read system b n) (omega arith)

pub lines_rounds : (system b : List ℕ) (n : ℕ) (t : List ℕ) → lines (round_lines system b n ++ t) ≡ rounds_as_read system b n ++ lines t
unfolding round_lines rounds_as_read
lines_rounds system b zero t = refl
lines_rounds system b (suc n) t =
    let line = round_line (n + 1) (round_challenge b n) (accepted_round system b n) in
    ap lines (append_assoc (round_lines system b n) line t) ∙
    lines_rounds system b n (line ++ t) ∙
    ap (λ (l : List (List ℕ)). rounds_as_read system b n ++ l) (line_first line _ _ t (round_words (n + 1) (round_challenge b n) (accepted_round system b n))) ∙
    sym (append_assoc (rounds_as_read system b n) (round_read (n + 1) (round_challenge b n) (accepted_round system b n) ∷ []) (lines t))

-- ---- those with a word

pub rounds_and : (word system b : List ℕ) (n : ℕ) (t : List ℕ) → rounds_with word (round_lines system b n ++ t) ≡ count (is_round_with word) (rounds_as_read system b n) + rounds_with word t
unfolding rounds_with
rounds_and word system b n t = ap (count (is_round_with word)) (lines_rounds system b n t) ∙ count-append (is_round_with word) (rounds_as_read system b n) (lines t)

pub rounds_alone : (word system b : List ℕ) (n : ℕ) → rounds_with word (round_lines system b n) ≡ count (is_round_with word) (rounds_as_read system b n)
unfolding rounds_with pieces count
rounds_alone word system b n = ap (rounds_with word) (sym (append-nil (round_lines system b n))) ∙ rounds_and word system b n [] ∙ add-zero _

one_more : (said : Bool) (system b : List ℕ) (n : ℕ) →
    count (is_round_with (verdict_word said)) (rounds_as_read system b (suc n)) ≡
    count (is_round_with (verdict_word said)) (rounds_as_read system b n) + cond (cond said (accepted_round system b n) (not (accepted_round system b n))) 1 0
unfolding rounds_as_read count
one_more said system b n =
    count-append (is_round_with (verdict_word said)) (rounds_as_read system b n) _ ∙
    simp (round_with said (n + 1) (round_challenge b n) (accepted_round system b n), add-zero)

accepted_read : (system b : List ℕ) (n : ℕ) → count (is_round_with accept_word) (rounds_as_read system b n) ≡ accepted_count system b n
unfolding rounds_as_read count verdict_word accepted_count
accepted_read system b zero = refl
accepted_read system b (suc n) = one_more true system b n ∙ ap (λ (k : ℕ). k + cond (accepted_round system b n) 1 0) (accepted_read system b n)

-- each round line has one of the two
both_read : (system b : List ℕ) (n : ℕ) → count (is_round_with accept_word) (rounds_as_read system b n) + count (is_round_with reject_word) (rounds_as_read system b n) ≡ n
unfolding rounds_as_read count verdict_word
both_read system b zero = refl
both_read system b (suc n) = go (accepted_round system b n) _ _ _ _ (one_more true system b n) (one_more false system b n) (both_read system b n)
  where
    go : (t : Bool) (a r x y : ℕ) → x ≡ a + cond t 1 0 → y ≡ r + cond (not t) 1 0 → a + r ≡ n → x + y ≡ suc n
    go true a r x y ex ey e = omega (arith, ex, ey, e)
    go false a r x y ex ey e = omega (arith, ex, ey, e)

-- ---- A and R

pub accepted_lines : (system b : List ℕ) (n : ℕ) → rounds_with accept_word (round_lines system b n) ≡ accepted_count system b n
accepted_lines system b n = rounds_alone accept_word system b n ∙ accepted_read system b n

pub both_lines : (system b : List ℕ) (n : ℕ) → rounds_with accept_word (round_lines system b n) + rounds_with reject_word (round_lines system b n) ≡ n
both_lines system b n = rw (rounds_alone accept_word system b n, rounds_alone reject_word system b n) (both_read system b n)

pub rejected_lines : (system b : List ℕ) (n : ℕ) → rounds_with reject_word (round_lines system b n) ≡ n - accepted_count system b n
rejected_lines system b n = omega (arith, accepted_lines system b n, both_lines system b n)
