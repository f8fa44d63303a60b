-- The hex digits of bytes, put byte by byte. Assumes nothing.
use Prim.Native.Nat.{ℕ, ◌+◌, ◌*◌, ◌<◌}
use mathlib.Core.Path.{◌≡◌, refl, ap}
use mathlib.Core.List.{List, [], ◌∷◌, ◌++◌}
use native.Mathlib.Omega.{arith}
use lib.ListN.{length, take}
use lib.Seq.{take_all}
use Rattle.std.specs.List.{flat_map}
use Rattle.slices.specs.Slices.{◌!◌}
use Rattle.text.proofs.Digits.{digits_more}
use Rattle.hex_text.specs.Hex.{hex_byte, hex}

pub length-hex : (s : List ℕ) → length (hex s) ≡ 2 * length s
unfolding hex hex_byte
length-hex [] = refl
length-hex (x ∷ s) = let rest = length-hex s in omega arith

each_hex : (s : List ℕ) → flat_map hex_byte s ≡ hex s
unfolding hex
each_hex [] = refl
each_hex (x ∷ s) = ap (λ (l : List ℕ). hex_byte x ++ l) (each_hex s)

pub hex_none : hex [] ≡ []
unfolding hex
hex_none = refl

pub hex_more : (s : List ℕ) (i : ℕ) → i < length s → hex (take (i + 1) s) ≡ hex (take i s) ++ hex_byte (s ! i)
hex_more s i more = digits_more hex hex_byte s i each_hex more

-- what the loop over the bytes wants
pub ruleset digits = (hex_none, hex_more, take_all, length-hex)
