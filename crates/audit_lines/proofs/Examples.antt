-- Texts of audits, as antt computes them. Assumes nothing.
use mathlib.Core.Path.{◌≡◌, refl}
use mathlib.Core.List.{[], ◌∷◌}
use Rattle.text.specs.Text.{last_digit, decimal, numbered, line_feed}
use Rattle.report_lines.specs.ReportLines.{round_word, refused_word, refused_line}
use Rattle.hex_text.specs.Hex.{hex_digit, hex_byte, hex}
use Rattle.auditing.specs.Outcome.{secret, clash, refused}
use Rattle.audit_lines.specs.AuditLines.{secret_word, clash_word, first_word, second_word, rejected_word, in_round_word, hex_line, clash_lines, rejected_line, refusal_line, audit_text}

-- secret 03fa, of a secret with two elements
pub worked_secret : audit_text 2 (secret (3 ∷ 250 ∷ 0 ∷ 0 ∷ [])) ≡ 115 ∷ 101 ∷ 99 ∷ 114 ∷ 101 ∷ 116 ∷ 32 ∷ 48 ∷ 51 ∷ 102 ∷ 97 ∷ 10 ∷ []
unfolding audit_text hex_line hex hex_byte hex_digit secret_word line_feed
worked_secret = refl

-- clash 1, first 0a, second (no bytes)
pub worked_clash : audit_text 2 (clash 1 (10 ∷ []) []) ≡ 99 ∷ 108 ∷ 97 ∷ 115 ∷ 104 ∷ 32 ∷ 49 ∷ 10 ∷ 102 ∷ 105 ∷ 114 ∷ 115 ∷ 116 ∷ 32 ∷ 48 ∷ 97 ∷ 10 ∷ 115 ∷ 101 ∷ 99 ∷ 111 ∷ 110 ∷ 100 ∷ 32 ∷ 10 ∷ []
unfolding audit_text clash_lines numbered decimal last_digit hex_line hex hex_byte hex_digit clash_word first_word second_word line_feed
worked_clash = refl

-- refused 9
pub worked_refusal : audit_text 2 (refused 9 0 0) ≡ 114 ∷ 101 ∷ 102 ∷ 117 ∷ 115 ∷ 101 ∷ 100 ∷ 32 ∷ 57 ∷ 10 ∷ []
unfolding audit_text refusal_line refused_line numbered decimal last_digit refused_word line_feed
worked_refusal = refl

-- refused 8 record 2 round 1
pub worked_rejection : audit_text 2 (refused 8 2 1) ≡ 114 ∷ 101 ∷ 102 ∷ 117 ∷ 115 ∷ 101 ∷ 100 ∷ 32 ∷ 56 ∷ 32 ∷ 114 ∷ 101 ∷ 99 ∷ 111 ∷ 114 ∷ 100 ∷ 32 ∷ 50 ∷ 32 ∷ 114 ∷ 111 ∷ 117 ∷ 110 ∷ 100 ∷ 32 ∷ 49 ∷ 10 ∷ []
unfolding audit_text refusal_line rejected_line numbered decimal last_digit rejected_word in_round_word round_word line_feed
worked_rejection = refl
