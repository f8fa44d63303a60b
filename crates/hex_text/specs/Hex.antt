-- Bytes as hexadecimal digits, ASCII codes.
use Rattle.std.specs.Prelude.{ℕ, ◌+◌, ◌/◌, ◌%◌, cond, List, [], ◌∷◌, ◌++◌, ltb}

-- a digit of a number below 16: 0 to 9, a to f
unfoldable pub hex_digit : ℕ → ℕ
hex_digit k = cond (ltb k 10) (48 + k) (87 + k)

-- a byte's two digits, the high one first
unfoldable pub hex_byte : ℕ → List ℕ
hex_byte x = hex_digit (x / 16) ∷ hex_digit (x % 16) ∷ []

-- two digits for each byte
unfoldable pub hex : List ℕ → List ℕ
hex [] = []
hex (x ∷ l) = hex_byte x ++ hex l
