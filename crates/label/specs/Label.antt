-- Document 02, paper 2: what a label is, and the order of labels. Halves are counted from 0.
use Rattle.std.specs.Prelude.{ℕ, ◌/◌, ◌%◌, ◌≤◌, ◌<◌, ◌≡◌, ◌⊎◌, List, [], ◌∷◌, length}
use Rattle.slices.specs.Slices.{◌!◌}

-- "two digits a byte, the first in the low half"
unfoldable pub halves : List ℕ → List ℕ
halves [] = []
halves (byte ∷ bytes) = byte % 16 ∷ byte / 16 ∷ halves bytes

-- "ten-byte label"; "The twentieth half may be F; every other half is 0 to 9."
pub record WellFormedLabel (l : List ℕ) : Type 0 where
  pub ten_bytes : length l ≡ 10
  pub digits : (i : ℕ) → i < 19 → halves l ! i ≤ 9
  pub twentieth : (halves l ! 19 ≤ 9) ⊎ (halves l ! 19 ≡ 15)

-- "digit by digit, with F after 9": the first half in which they differ is lower in a; F is 15
pub record Below (a b : List ℕ) : Type 0 where
  pub place : ℕ
  pub within : place < 20
  pub alike : (i : ℕ) → i < place → halves a ! i ≡ halves b ! i
  pub lower : halves a ! place < halves b ! place

-- R is a strict total order on what P holds of
pub record StrictTotal (P : List ℕ → Type 0) (R : List ℕ → List ℕ → Type 0) : Type 0 where
  pub irreflexive : (a : List ℕ) → P a → R a a → ⊥
  pub transitive : (a b c : List ℕ) → P a → P b → P c → R a b → R b c → R a c
  pub total : (a b : List ℕ) → P a → P b → (a ≡ b) ⊎ (R a b ⊎ R b a)
