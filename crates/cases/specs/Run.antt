-- What the contracts of `run` cite: when two buffers agree. Assumes nothing.
use Rattle.std.specs.Prelude.{◌≡◌, ℕ, ◌≤◌, List, length, take}

-- both have n bytes, and their first n are the same
pub record SameStart (a b : List ℕ) (n : ℕ) : Type 0 where
  pub first : n ≤ length a
  pub second : n ≤ length b
  pub same : take n a ≡ take n b
