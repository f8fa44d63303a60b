-- What the audit program prints, as bytes, ASCII codes. Document 01 leaves this text open.
use Rattle.std.specs.Prelude.{ℕ, cond, List, [], ◌∷◌, ◌++◌, eqb, take}
use Rattle.hex_text.specs.Hex.{hex}
use Rattle.text.specs.Text.{numbered, line_feed}
use Rattle.report_lines.specs.ReportLines.{round_word, refused_line}
use Rattle.system.specs.System.{n_of}
use Rattle.auditing.specs.Outcome.{Outcome, secret, clash, refused}
use Rattle.auditing.specs.Audit.{audit_three, audit_five}

-- ---- words

-- "secret "
unfoldable pub secret_word : List ℕ
secret_word = 115 ∷ 101 ∷ 99 ∷ 114 ∷ 101 ∷ 116 ∷ 32 ∷ []

-- "clash "
unfoldable pub clash_word : List ℕ
clash_word = 99 ∷ 108 ∷ 97 ∷ 115 ∷ 104 ∷ 32 ∷ []

-- "first "
unfoldable pub first_word : List ℕ
first_word = 102 ∷ 105 ∷ 114 ∷ 115 ∷ 116 ∷ 32 ∷ []

-- "second "
unfoldable pub second_word : List ℕ
second_word = 115 ∷ 101 ∷ 99 ∷ 111 ∷ 110 ∷ 100 ∷ 32 ∷ []

-- "refused 8 record "
unfoldable pub rejected_word : List ℕ
rejected_word = 114 ∷ 101 ∷ 102 ∷ 117 ∷ 115 ∷ 101 ∷ 100 ∷ 32 ∷ 56 ∷ 32 ∷ 114 ∷ 101 ∷ 99 ∷ 111 ∷ 114 ∷ 100 ∷ 32 ∷ []

-- " round "
unfoldable pub in_round_word : List ℕ
in_round_word = 32 ∷ round_word

-- ---- lines

-- a word, then bytes in hexadecimal digits
unfoldable pub hex_line : List ℕ → List ℕ → List ℕ
hex_line word s = word ++ hex s ++ line_feed

-- `clash 1`, then both strings on a line each
unfoldable pub clash_lines : ℕ → List ℕ → List ℕ → List ℕ
clash_lines k x y = (numbered clash_word k ++ line_feed) ++ hex_line first_word x ++ hex_line second_word y

-- `refused 8 record 2 round 1`
unfoldable pub rejected_line : ℕ → ℕ → List ℕ
rejected_line whose round = (numbered rejected_word whose ++ numbered in_round_word round) ++ line_feed

-- a record and a round are given with 8 alone
unfoldable pub refusal_line : ℕ → ℕ → ℕ → List ℕ
refusal_line number whose round = cond (eqb number 8) (rejected_line whose round) (refused_line number)

-- the text of an audit whose secrets have n elements
unfoldable pub audit_text : ℕ → Outcome → List ℕ
audit_text n (secret s) = hex_line secret_word (take n s)
audit_text n (clash k x y) = clash_lines k x y
audit_text n (refused number whose round) = refusal_line number whose round

-- the text of an audit of scheme 3
unfoldable pub three_text : List ℕ → List ℕ → List ℕ → List ℕ → List ℕ
three_text system a b c = audit_text (n_of system) (audit_three system a b c)

-- of scheme 5
unfoldable pub five_text : List ℕ → List ℕ → List ℕ → List ℕ → List ℕ → List ℕ
five_text system a b c d = audit_text (n_of system) (audit_five system a b c d)
