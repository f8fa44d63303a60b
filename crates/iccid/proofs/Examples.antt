-- A label from its ICCID and back, as antt computes them. Assumes nothing.
use mathlib.Core.Path.{◌≡◌, refl}
use mathlib.Core.List.{List, [], ◌∷◌}
use Prim.Native.Nat.{ℕ}
use Rattle.slices.specs.Slices.{tabulate}
use Rattle.label.specs.Label.{halves}
use Rattle.iccid.specs.Iccid.{half_digit, digits_of, label_digits, half_of, character_at, byte_from, has_label, label_from}

-- "8944100000000000013"
unfoldable pub nineteen : List ℕ
nineteen = 56 ∷ 57 ∷ 52 ∷ 52 ∷ 49 ∷ 48 ∷ 48 ∷ 48 ∷ 48 ∷ 48 ∷ 48 ∷ 48 ∷ 48 ∷ 48 ∷ 48 ∷ 48 ∷ 48 ∷ 49 ∷ 51 ∷ []

-- 98 44 01 00 00 00 00 00 10 f3, in hexadecimal
unfoldable pub ending : List ℕ
ending = 152 ∷ 68 ∷ 1 ∷ 0 ∷ 0 ∷ 0 ∷ 0 ∷ 0 ∷ 16 ∷ 243 ∷ []

pub worked_label : label_from nineteen ≡ ending
unfolding nineteen ending label_from has_label tabulate byte_from character_at half_of
worked_label = refl

pub worked_digits : label_digits ending ≡ nineteen
unfolding nineteen ending label_digits digits_of half_digit halves
worked_digits = refl

-- eighteen characters are no label
pub worked_length : label_from (56 ∷ 57 ∷ 52 ∷ 52 ∷ 49 ∷ 48 ∷ 48 ∷ 48 ∷ 48 ∷ 48 ∷ 48 ∷ 48 ∷ 48 ∷ 48 ∷ 48 ∷ 48 ∷ 48 ∷ 49 ∷ []) ≡ []
unfolding label_from has_label
worked_length = refl
