-- A string as the code holds it: in 322 bytes, zero beyond its length, with its length.
use Rattle.std.specs.Prelude.{ℕ, ◌+◌, ◌≤◌, ◌≡◌, List, ◌++◌, length, take}
use Rattle.slices.specs.Slices.{◌!◌, tabulate}
use Rattle.commitment.specs.declared.Text.{Text}
use Rattle.commitment.specs.Commitment.{longest}

-- "zero beyond their lengths"
unfoldable pub zero_beyond : List ℕ → List ℕ
zero_beyond l = tabulate longest (λ i. l ! i)

unfoldable pub text : List ℕ → Text
text l = record { bytes = zero_beyond l; len = length l }

-- the string that a text holds
abbrev pub content : Text → List ℕ
content t = take t.len t.bytes

-- there is room for so many bytes more
abbrev pub Room : ℕ → Text → Type 0
Room room t = t.len + room ≤ longest

-- t holds the string l, with room for so many bytes more
pub record TextOf (l : List ℕ) (room : ℕ) (t : Text) : Type 0 where
  pub is : t ≡ text l
  pub fits : Room room t

-- where t holds a string, r holds it with s behind it
pub record Appended (t : Text) (s : List ℕ) (r : Text) : Type 0 where
  pub holds : (l : List ℕ) (room : ℕ) → TextOf l (length s + room) t → TextOf (l ++ s) room r
