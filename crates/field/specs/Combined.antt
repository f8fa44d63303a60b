-- What a loop over two vectors leaves, for any function at each place.
use Rattle.std.specs.Prelude.{ℕ, ◌<◌, ◌≤◌, ◌≡◌, List, length}
use Rattle.slices.specs.Slices.{◌!◌}

-- z is a vector of n elements, each of which f may give of those of x and y at its place
pub record Combined (f : ℕ → ℕ → ℕ → Type 0) (n : ℕ) (x y z : List ℕ) : Type 0 where
  pub whole : length z ≡ 96
  pub given : (i : ℕ) → i < n → i < 96 → f (x ! i) (y ! i) (z ! i)
  pub beyond : (i : ℕ) → n ≤ i → z ! i ≡ 0
