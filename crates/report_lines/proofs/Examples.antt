-- Lines of the report, as antt computes them. Assumes nothing.
use Prim.Native.Nat.{ℕ}
use mathlib.Core.Path.{◌≡◌, refl}
use mathlib.Core.Bool.{true, false}
use mathlib.Core.List.{List, [], ◌∷◌, ◌++◌}
use Rattle.slices.specs.Slices.{same}
use Rattle.text.specs.Text.{last_digit, decimal, numbered, line_feed}
use Rattle.text.specs.Reading.{onto, pieces, is_one_of, count}
use Rattle.report_lines.specs.ReportLines.{round_word, challenge_word, space_word, accept_word, reject_word, verdict_start, of_word, rounds_word, accepted_word, rejected_word, refused_word, verdict_word, round_line, verdict_line, totals_line, refused_line}
use Rattle.report_lines.specs.ReadLines.{round_name, is_round_with, rounds_with}

-- round 1 challenge 2 accept
pub worked_round : round_line 1 2 true ≡ 114 ∷ 111 ∷ 117 ∷ 110 ∷ 100 ∷ 32 ∷ 49 ∷ 32 ∷ 99 ∷ 104 ∷ 97 ∷ 108 ∷ 108 ∷ 101 ∷ 110 ∷ 103 ∷ 101 ∷ 32 ∷ 50 ∷ 32 ∷ 97 ∷ 99 ∷ 99 ∷ 101 ∷ 112 ∷ 116 ∷ 10 ∷ []
unfolding round_line round_word challenge_word space_word verdict_word accept_word reject_word line_feed numbered decimal last_digit
worked_round = refl

-- round 255 challenge 0 reject
pub last_round : round_line 255 0 false ≡ 114 ∷ 111 ∷ 117 ∷ 110 ∷ 100 ∷ 32 ∷ 50 ∷ 53 ∷ 53 ∷ 32 ∷ 99 ∷ 104 ∷ 97 ∷ 108 ∷ 108 ∷ 101 ∷ 110 ∷ 103 ∷ 101 ∷ 32 ∷ 48 ∷ 32 ∷ 114 ∷ 101 ∷ 106 ∷ 101 ∷ 99 ∷ 116 ∷ 10 ∷ []
unfolding round_line round_word challenge_word space_word verdict_word accept_word reject_word line_feed numbered decimal last_digit
last_round = refl

-- verdict accept 1 of 1
pub worked_verdict : verdict_line 1 1 ≡ 118 ∷ 101 ∷ 114 ∷ 100 ∷ 105 ∷ 99 ∷ 116 ∷ 32 ∷ 97 ∷ 99 ∷ 99 ∷ 101 ∷ 112 ∷ 116 ∷ 32 ∷ 49 ∷ 32 ∷ 111 ∷ 102 ∷ 32 ∷ 49 ∷ 10 ∷ []
unfolding verdict_line verdict_start of_word space_word verdict_word accept_word reject_word line_feed numbered decimal last_digit
worked_verdict = refl

-- verdict reject 99 of 100
pub one_rejected : verdict_line 99 100 ≡ 118 ∷ 101 ∷ 114 ∷ 100 ∷ 105 ∷ 99 ∷ 116 ∷ 32 ∷ 114 ∷ 101 ∷ 106 ∷ 101 ∷ 99 ∷ 116 ∷ 32 ∷ 57 ∷ 57 ∷ 32 ∷ 111 ∷ 102 ∷ 32 ∷ 49 ∷ 48 ∷ 48 ∷ 10 ∷ []
unfolding verdict_line verdict_start of_word space_word verdict_word accept_word reject_word line_feed numbered decimal last_digit
one_rejected = refl

-- rounds 1 accepted 0 rejected
pub worked_totals : totals_line 1 0 ≡ 114 ∷ 111 ∷ 117 ∷ 110 ∷ 100 ∷ 115 ∷ 32 ∷ 49 ∷ 32 ∷ 97 ∷ 99 ∷ 99 ∷ 101 ∷ 112 ∷ 116 ∷ 101 ∷ 100 ∷ 32 ∷ 48 ∷ 32 ∷ 114 ∷ 101 ∷ 106 ∷ 101 ∷ 99 ∷ 116 ∷ 101 ∷ 100 ∷ 10 ∷ []
unfolding totals_line rounds_word accepted_word rejected_word line_feed numbered decimal last_digit
worked_totals = refl

-- rounds 100 accepted 155 rejected
pub longest_totals : totals_line 100 155 ≡ 114 ∷ 111 ∷ 117 ∷ 110 ∷ 100 ∷ 115 ∷ 32 ∷ 49 ∷ 48 ∷ 48 ∷ 32 ∷ 97 ∷ 99 ∷ 99 ∷ 101 ∷ 112 ∷ 116 ∷ 101 ∷ 100 ∷ 32 ∷ 49 ∷ 53 ∷ 53 ∷ 32 ∷ 114 ∷ 101 ∷ 106 ∷ 101 ∷ 99 ∷ 116 ∷ 101 ∷ 100 ∷ 10 ∷ []
unfolding totals_line rounds_word accepted_word rejected_word line_feed numbered decimal last_digit
longest_totals = refl

-- refused 2
pub too_long : refused_line 2 ≡ 114 ∷ 101 ∷ 102 ∷ 117 ∷ 115 ∷ 101 ∷ 100 ∷ 32 ∷ 50 ∷ 10 ∷ []
unfolding refused_line refused_word line_feed numbered decimal last_digit
too_long = refl

-- ---- the printed case, read back

-- the lines of "round 1 challenge 2 accept", "verdict accept 1 of 1", "rounds 1 accepted 0 rejected"
abbrev printed : List ℕ
printed = round_line 1 2 true ++ verdict_line 1 1 ++ totals_line 1 0

pub read_printed : (rounds_with accept_word printed ≡ 1) × (rounds_with reject_word printed ≡ 0)
unfolding round_line round_word challenge_word verdict_line verdict_start of_word space_word verdict_word accept_word reject_word totals_line rounds_word accepted_word rejected_word line_feed numbered decimal last_digit rounds_with is_round_with round_name pieces onto is_one_of count same
read_printed = (refl, refl)
