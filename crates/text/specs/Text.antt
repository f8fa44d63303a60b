-- Document 01, "Report program": numbers in a text, and the end of a line, as ASCII codes.
use Rattle.std.specs.Prelude.{ℕ, ◌+◌, ◌/◌, ◌%◌, cond, List, [], ◌∷◌, ◌++◌, ltb}

-- a number's last digit
unfoldable pub last_digit : ℕ → ℕ
last_digit k = 48 + k % 10

-- a number below 10,000, with no zero before its first digit
unfoldable pub decimal : ℕ → List ℕ
decimal k =
    cond (ltb k 10) (last_digit k ∷ [])
    (cond (ltb k 100) (last_digit (k / 10) ∷ last_digit k ∷ [])
    (cond (ltb k 1000) (last_digit (k / 100) ∷ last_digit (k / 10) ∷ last_digit k ∷ [])
    (last_digit (k / 1000) ∷ last_digit (k / 100) ∷ last_digit (k / 10) ∷ last_digit k ∷ [])))

-- a word and a number behind it
unfoldable pub numbered : List ℕ → ℕ → List ℕ
numbered word k = word ++ decimal k

-- "each ended by a line feed"
unfoldable pub line_feed : List ℕ
line_feed = 10 ∷ []
