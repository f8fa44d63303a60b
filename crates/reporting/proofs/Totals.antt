-- What a report says at its end is right, and a refusal stands alone. Assumes nothing.
use Prim.Native.Nat.{ℕ, ◌+◌, ◌≤◌}
use mathlib.Core.Path.{◌≡◌, refl, sym, ap, ◌∙◌}
use mathlib.Core.Bool.{Bool, true, false, cond, true≢false}
use mathlib.Core.List.{List, ◌++◌}
use mathlib.Core.Logic.{◌↔◌}
use mathlib.Core.Option.{some}
use native.Mathlib.Omega.{arith}
use lib.Dec.{eqb}
use borrow.Author.Tests.{eqb-true, eqb-false, eq-eqb, ne_eqb}
use Rattle.slices.specs.Slices.{same}
use Rattle.slices.proofs.Sameness.{same_by}
use Rattle.text.specs.Text.{decimal}
use Rattle.text.proofs.Decimal.{read_decimal}
use Rattle.text.proofs.Reading.{words_spaced, line_alone}
use Rattle.record_form.specs.Record.{header_in}
use Rattle.record_form.proofs.ValidForm.{values}
use Rattle.record.proofs.RecordLayout.{accepted, not_refused}
use Rattle.refusal.proofs.Refusals.{first_zero, later_zero}
use Rattle.system.specs.System.{system_refusal}
use Rattle.transcript.specs.Transcript.{judge_refusal, accepted_count}
use Rattle.report_lines.specs.ReportLines.{accept_word, reject_word, verdict_word, verdict_line, totals_line, refused_line}
use Rattle.report_lines.specs.ReadLines.{rounds_with}
use Rattle.report_lines.proofs.ReadLines.{verdict_read, totals_read, verdict_words, totals_words, refused_words, end_lines, no_rounds_at_end}
use Rattle.reporting.specs.Report.{system_part, record_part, report_refusal, round_lines, judged_text, report_text}
use Rattle.reporting.specs.Totals.{Reportable, RightEnd, RefusedAlone}
use Rattle.reporting.proofs.RoundLines.{rounds_as_read, length_read, lines_rounds, rounds_and, rounds_alone, accepted_lines, both_lines}
use Rattle.reporting.proofs.Inputs.{reports, reportable, joined}

-- ---- the verdict's word

-- "accept" and "reject" are two words
two_words : accept_word ≡ reject_word → ⊥
unfolding same accept_word reject_word
two_words e = absurd (true≢false (sym (same_by accept_word reject_word e)))

word_accepts : (k n r : ℕ) → k + r ≡ n → (verdict_word (eqb k n) ≡ accept_word) ↔ (r ≡ 0)
unfolding verdict_word
word_accepts k n r sum = (λ e. go (eqb k n) refl e, λ none. rw (eq-eqb k n (omega arith)) refl)
  where
    go : (t : Bool) → eqb k n ≡ t → verdict_word t ≡ accept_word → r ≡ 0
    go true is e = omega (arith, sum, eqb-true k n is)
    go false is e = absurd (two_words (sym e))

word_rejects : (k n r : ℕ) → k + r ≡ n → (verdict_word (eqb k n) ≡ reject_word) ↔ (r ≡ 0 → ⊥)
unfolding verdict_word
word_rejects k n r sum = (λ e. go (eqb k n) refl e, λ one. rw (ne_eqb k n (λ all. one (omega (arith, sum, all)))) refl)
  where
    go : (t : Bool) → eqb k n ≡ t → verdict_word t ≡ reject_word → r ≡ 0 → ⊥
    go true is e none = two_words e
    go false is e none = absurd (eqb-false k n is (omega (arith, sum, none)))

-- ---- the end

-- the round lines with a word are those above the end
above_end : (word system b : List ℕ) (n k x y : ℕ) → rounds_with word (round_lines system b n ++ (verdict_line k n ++ totals_line x y)) ≡ rounds_with word (round_lines system b n)
above_end word system b n k x y =
    omega (arith, rounds_and word system b n (verdict_line k n ++ totals_line x y), no_rounds_at_end word k n x y, rounds_alone word system b n)

right_end : (system b : List ℕ) → (header_in b).rounds ≤ 255 → RightEnd (judged_text system b) (header_in b).rounds
unfolding judged_text
right_end system b few =
    let n = (header_in b).rounds in
    let k = accepted_count system b n in
    let A = rounds_with accept_word (round_lines system b n) in
    let R = rounds_with reject_word (round_lines system b n) in
    let sum = both_lines system b n in
    let count = accepted_lines system b n in
    let a_above = above_end accept_word system b n k A R in
    let r_above = above_end reject_word system b n k A R in
    record {
      rounds = rounds_as_read system b n;
      verdict = verdict_read k n;
      totals = totals_read A R;
      all_lines = lines_rounds system b n _ ∙ ap (λ (l : List (List ℕ)). rounds_as_read system b n ++ l) (end_lines k n A R);
      a_line_a_round = length_read system b n;
      word = verdict_word (eqb k n);
      passed = decimal k;
      of_all = decimal n;
      verdict_words = words_spaced _ _ (verdict_words k n).of_words;
      accepts_when = rw r_above (word_accepts k n R (omega (arith, sum, count)));
      rejects_when = rw r_above (word_rejects k n R (omega (arith, sum, count)));
      passed_is = read_decimal k (omega (arith, sum, count)) ∙ ap some (sym count ∙ sym a_above);
      of_all_is = read_decimal n (omega arith);
      accepted = decimal A;
      rejected = decimal R;
      totals_words = words_spaced _ _ (totals_words A R).of_words;
      accepted_is = read_decimal A (omega (arith, sum)) ∙ ap some (sym a_above);
      rejected_is = read_decimal R (omega (arith, sum)) ∙ ap some (sym r_above);
      sum_is = rw (a_above, r_above) sum;
    }

-- ---- every input

pub report_end : (system b : List ℕ) → Reportable system b → RightEnd (report_text (system ++ b)) (header_in b).rounds
report_end system b k = rw (reports system b k) (right_end system b few)
  where
    few : (header_in b).rounds ≤ 255
    few = (values (header_in b) (accepted b (not_refused b k.record_well_formed)).header_values).rounds_value.1

refused_line_alone : (refusal : ℕ) → RefusedAlone (refused_line refusal)
refused_line_alone refusal =
    record {
      line = _;
      number = decimal refusal;
      one_line = line_alone (refused_line refusal) _ _ (refused_words refusal);
      line_words = words_spaced _ _ (refused_words refusal).of_words;
    }

pub report_refused : (input : List ℕ) → ((system b : List ℕ) → input ≡ system ++ b → Reportable system b → ⊥) → RefusedAlone (report_text input)
unfolding report_text
report_refused input other = go (eqb (report_refusal input) 0) refl
  where
    go : (t : Bool) → eqb (report_refusal input) 0 ≡ t → RefusedAlone (cond t (judged_text (system_part input) (record_part input)) (refused_line (report_refusal input)))
    go true none = absurd (other (system_part input) (record_part input) (joined input) (reportable input (eqb-true _ 0 none)))
    go false refused = refused_line_alone (report_refusal input)

-- ---- the system of an input that is not refused is not refused

pub system_good : (input : List ℕ) → report_refusal input ≡ 0 → system_refusal (system_part input) ≡ 0
unfolding report_refusal judge_refusal
system_good input none = first_zero _ _ (later_zero _ _ none)
