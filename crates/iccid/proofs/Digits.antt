-- The digits of a label, put byte by byte. Assumes nothing.
use Prim.Native.Nat.{ℕ, ◌+◌, ◌/◌, ◌%◌, ◌<◌}
use mathlib.Core.Path.{◌≡◌, refl, ap, ◌∙◌}
use mathlib.Core.List.{List, [], ◌∷◌, ◌++◌, append_assoc}
use lib.ListN.{length, take}
use lib.Seq.{take_all}
use Rattle.std.specs.List.{flat_map}
use Rattle.slices.specs.Slices.{◌!◌}
use Rattle.text.proofs.Digits.{digits_more}
use Rattle.label.specs.Label.{halves}
use Rattle.iccid.specs.Iccid.{half_digit, digits_of, label_digits}

-- a byte's digits, the low half's first
abbrev byte_digits : ℕ → List ℕ
byte_digits x = half_digit (x % 16) ++ half_digit (x / 16)

each_label : (s : List ℕ) → flat_map byte_digits s ≡ label_digits s
unfolding label_digits digits_of halves
each_label [] = refl
each_label (x ∷ s) = append_assoc (half_digit (x % 16)) (half_digit (x / 16)) _ ∙ ap (λ (l : List ℕ). half_digit (x % 16) ++ (half_digit (x / 16) ++ l)) (each_label s)

pub label_none : label_digits [] ≡ []
unfolding label_digits digits_of halves
label_none = refl

pub label_more : (s : List ℕ) (i : ℕ) → i < length s →
    label_digits (take (i + 1) s) ≡ label_digits (take i s) ++ (half_digit ((s ! i) % 16) ++ half_digit ((s ! i) / 16))
label_more s i more = digits_more label_digits byte_digits s i each_label more

-- what the loop over the bytes wants
pub ruleset digits = (label_none, label_more, take_all)
