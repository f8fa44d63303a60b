-- What the contracts of the reader cite: where a piece's parts stand. Assumes nothing.
use Rattle.std.specs.Prelude.{◌≡◌, ℕ, ◌≤◌, List, ◌++◌, length, take, drop}
use Rattle.cases.specs.declared.reader.Piece.{Piece}

-- the pattern, the patches and what follows the piece stand in that order behind its three numbers, and nothing else does
pub record Placed (p : Piece) (file rest : List ℕ) : Type 0 where
  pub parts : p.pattern.now ++ (p.patches.now ++ rest) ≡ drop 12 file

-- the first n bytes are in bounds, and they are n
abbrev pub IsPrefixLen : ℕ → List ℕ → Type 0
IsPrefixLen n xs = (n ≤ length xs) × (n ≡ length (take n xs))
