-- Running results over rows of bytes, in whole numbers: what the code's loops hold before they reduce.
use Rattle.std.specs.Prelude.{ℕ, zero, suc, ◌+◌, ◌*◌, max, List, [], ◌∷◌}
use Rattle.slices.specs.Slices.{◌!◌}

-- a₀·b₀ + .. up to place k - 1
unfoldable pub products : List ℕ → List ℕ → ℕ → ℕ
products a b zero = 0
products a b (suc k) = products a b k + a ! k * b ! k

-- the largest element; 0 of an empty list
unfoldable pub largest : List ℕ → ℕ
largest [] = 0
largest (x ∷ xs) = max x (largest xs)
