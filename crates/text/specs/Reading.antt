-- A text read back: its lines, the words of a line, and the number that digits stand for. Said of any bytes, and by nothing that writes a text.
use Rattle.std.specs.Prelude.{ℕ, ◌+◌, ◌-◌, ◌*◌, Bool, false, cond, ◌&&◌, ◌||◌, List, [], ◌∷◌, eqb, leb}
use Rattle.std.proofs.Math.Option.{Option, some, none}
use Rattle.slices.specs.Slices.{same}

-- a byte put before the first piece
unfoldable pub onto : ℕ → List (List ℕ) → List (List ℕ)
onto b [] = (b ∷ []) ∷ []
onto b (p ∷ ps) = (b ∷ p) ∷ ps

-- a text cut at each mark; what stands behind the last mark is a piece too, unless it is empty
unfoldable pub pieces : ℕ → List ℕ → List (List ℕ)
pieces mark [] = []
pieces mark (b ∷ t) = cond (eqb b mark) ([] ∷ pieces mark t) (onto b (pieces mark t))

-- "each ended by a line feed"
abbrev pub lines : List ℕ → List (List ℕ)
lines text = pieces 10 text

-- a space stands between two words of a line
abbrev pub words : List ℕ → List (List ℕ)
words line = pieces 32 line

-- whether a word is one of these
unfoldable pub is_one_of : List ℕ → List (List ℕ) → Bool
is_one_of w [] = false
is_one_of w (v ∷ vs) = same w v || is_one_of w vs

-- how many of the lines pass a test
unfoldable pub count : (List ℕ → Bool) → List (List ℕ) → ℕ
count test [] = 0
count test (l ∷ ls) = cond (test l) 1 0 + count test ls

-- the number that decimal digits stand for, behind the digits of k; none where a byte is no digit
unfoldable pub number_behind : ℕ → List ℕ → Option ℕ
number_behind k [] = some k
number_behind k (d ∷ l) = cond (leb 48 d && leb d 57) (number_behind (10 * k + (d - 48)) l) none

-- the number that a word stands for
unfoldable pub number_of : List ℕ → Option ℕ
number_of [] = none
number_of (d ∷ l) = number_behind 0 (d ∷ l)
