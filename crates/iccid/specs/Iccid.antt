-- Document 02, paper 2: "A label is the ICCID as stored on the card: two digits a byte, the first in the low half". Digits are ASCII codes.
use Rattle.std.specs.Prelude.{ℕ, ◌+◌, ◌-◌, ◌*◌, ◌≤◌, ◌<◌, Bool, cond, ◌&&◌, ◌||◌, List, [], ◌∷◌, ◌++◌, eqb, ltb, leb, length}
use Rattle.slices.specs.Slices.{◌!◌, tabulate}
use Rattle.label.specs.Label.{halves}

-- ---- the digits of a label

-- a half's digit; F, which only ends a label, has none
unfoldable pub half_digit : ℕ → List ℕ
half_digit half = cond (eqb half 15) [] ((48 + half) ∷ [])

-- the digits of halves, in their order
unfoldable pub digits_of : List ℕ → List ℕ
digits_of [] = []
digits_of (half ∷ more) = half_digit half ++ digits_of more

-- a label's twenty digits, or its nineteen where the twentieth half is F
unfoldable pub label_digits : List ℕ → List ℕ
label_digits label = digits_of (halves label)

-- ---- the label of digits

-- the half that a character stands for: its digit, F for `F`, else 10, which is wrong in every place
unfoldable pub half_of : ℕ → ℕ
half_of character = cond (eqb character 70) 15 (cond (leb 48 character && leb character 57) (character - 48) 10)

-- the character at place i, from 0; `F` stands behind the last
unfoldable pub character_at : List ℕ → ℕ → ℕ
character_at iccid i = cond (ltb i (length iccid)) (iccid ! i) 70

-- byte i of the label: characters 2i and 2i + 1, the first in the low half
unfoldable pub byte_from : List ℕ → ℕ → ℕ
byte_from iccid i = half_of (character_at iccid (2 * i)) + 16 * half_of (character_at iccid (2 * i + 1))

-- an ICCID has twenty characters, or nineteen
unfoldable pub has_label : List ℕ → Bool
has_label iccid = eqb (length iccid) 20 || eqb (length iccid) 19

-- its label, which has F at its end where there are nineteen; no bytes for any other length
unfoldable pub label_from : List ℕ → List ℕ
label_from iccid = cond (has_label iccid) (tabulate 10 (byte_from iccid)) []

-- each character is a digit
abbrev pub AllDigits : List ℕ → Type 0
AllDigits iccid = (i : ℕ) → i < length iccid → (48 ≤ iccid ! i) × (iccid ! i ≤ 57)
