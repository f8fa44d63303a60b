-- Document 01, "Report program", and document 02, Paper 1: the lines of the report as bytes, ASCII codes.
use Rattle.std.specs.Prelude.{ℕ, Bool, cond, List, [], ◌∷◌, ◌++◌, eqb}
use Rattle.text.specs.Text.{numbered, line_feed}

-- ---- words

-- "round "
unfoldable pub round_word : List ℕ
round_word = 114 ∷ 111 ∷ 117 ∷ 110 ∷ 100 ∷ 32 ∷ []

-- " challenge "
unfoldable pub challenge_word : List ℕ
challenge_word = 32 ∷ 99 ∷ 104 ∷ 97 ∷ 108 ∷ 108 ∷ 101 ∷ 110 ∷ 103 ∷ 101 ∷ 32 ∷ []

-- " "
unfoldable pub space_word : List ℕ
space_word = 32 ∷ []

-- "accept"
unfoldable pub accept_word : List ℕ
accept_word = 97 ∷ 99 ∷ 99 ∷ 101 ∷ 112 ∷ 116 ∷ []

-- "reject"
unfoldable pub reject_word : List ℕ
reject_word = 114 ∷ 101 ∷ 106 ∷ 101 ∷ 99 ∷ 116 ∷ []

-- "verdict "
unfoldable pub verdict_start : List ℕ
verdict_start = 118 ∷ 101 ∷ 114 ∷ 100 ∷ 105 ∷ 99 ∷ 116 ∷ 32 ∷ []

-- " of "
unfoldable pub of_word : List ℕ
of_word = 32 ∷ 111 ∷ 102 ∷ 32 ∷ []

-- "rounds "
unfoldable pub rounds_word : List ℕ
rounds_word = 114 ∷ 111 ∷ 117 ∷ 110 ∷ 100 ∷ 115 ∷ 32 ∷ []

-- " accepted "
unfoldable pub accepted_word : List ℕ
accepted_word = 32 ∷ 97 ∷ 99 ∷ 99 ∷ 101 ∷ 112 ∷ 116 ∷ 101 ∷ 100 ∷ 32 ∷ []

-- " rejected"
unfoldable pub rejected_word : List ℕ
rejected_word = 32 ∷ 114 ∷ 101 ∷ 106 ∷ 101 ∷ 99 ∷ 116 ∷ 101 ∷ 100 ∷ []

-- "refused "
unfoldable pub refused_word : List ℕ
refused_word = 114 ∷ 101 ∷ 102 ∷ 117 ∷ 115 ∷ 101 ∷ 100 ∷ 32 ∷ []

-- "accept or reject"
unfoldable pub verdict_word : Bool → List ℕ
verdict_word accepted = cond accepted accept_word reject_word

-- ---- lines

-- "Fields: round from 1, challenge (scheme 5 the same, α not shown), accept or reject": `round 1 challenge 2 accept`
unfoldable pub round_line : ℕ → ℕ → Bool → List ℕ
round_line round challenge accepted =
    numbered round_word round ++ numbered challenge_word challenge ++ (space_word ++ verdict_word accepted) ++ line_feed

-- "verdict (accept only if all), accepted rounds, N": `verdict accept 1 of 1`
unfoldable pub verdict_line : ℕ → ℕ → List ℕ
verdict_line accepted rounds =
    (verdict_start ++ verdict_word (eqb accepted rounds)) ++ (numbered space_word accepted ++ numbered of_word rounds) ++ line_feed

-- Paper 1: "A third line follows the verdict: `rounds A accepted R rejected`"
unfoldable pub totals_line : ℕ → ℕ → List ℕ
totals_line accepted rejected = numbered rounds_word accepted ++ numbered accepted_word rejected ++ rejected_word ++ line_feed

-- "A refusal prints only `refused` and its number."
unfoldable pub refused_line : ℕ → List ℕ
refused_line refusal = numbered refused_word refusal ++ line_feed
