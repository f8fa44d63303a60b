-- The lines of the report as a reader finds them in a text: their words, and document 02, Paper 1: "A and R count the round lines with each word". No line is
-- written here.
use Rattle.std.specs.Prelude.{ℕ, Bool, ◌&&◌, List, [], ◌∷◌, get_or}
use Rattle.slices.specs.Slices.{same}
use Rattle.text.specs.Reading.{lines, words, is_one_of, count}

-- ---- words, as they stand between spaces

-- "round"
unfoldable pub round_name : List ℕ
round_name = 114 ∷ 111 ∷ 117 ∷ 110 ∷ 100 ∷ []

-- "verdict"
unfoldable pub verdict_name : List ℕ
verdict_name = 118 ∷ 101 ∷ 114 ∷ 100 ∷ 105 ∷ 99 ∷ 116 ∷ []

-- "of"
unfoldable pub of_name : List ℕ
of_name = 111 ∷ 102 ∷ []

-- "rounds"
unfoldable pub rounds_name : List ℕ
rounds_name = 114 ∷ 111 ∷ 117 ∷ 110 ∷ 100 ∷ 115 ∷ []

-- "accepted"
unfoldable pub accepted_name : List ℕ
accepted_name = 97 ∷ 99 ∷ 99 ∷ 101 ∷ 112 ∷ 116 ∷ 101 ∷ 100 ∷ []

-- "rejected"
unfoldable pub rejected_name : List ℕ
rejected_name = 114 ∷ 101 ∷ 106 ∷ 101 ∷ 99 ∷ 116 ∷ 101 ∷ 100 ∷ []

-- "refused"
unfoldable pub refused_name : List ℕ
refused_name = 114 ∷ 101 ∷ 102 ∷ 117 ∷ 115 ∷ 101 ∷ 100 ∷ []

-- ---- the round lines

-- a line whose first word is "round", and which has the given word
unfoldable pub is_round_with : List ℕ → List ℕ → Bool
is_round_with word line = same round_name (get_or (words line) 0 []) && is_one_of word (words line)

-- how many of a text's lines are such
unfoldable pub rounds_with : List ℕ → List ℕ → ℕ
rounds_with word text = count (is_round_with word) (lines text)
