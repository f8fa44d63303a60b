-- What document 01 asks of the arguments of `evaluate` and `polar`, by the numbers of "Refused because of the input". Nothing here is taken from the refusals:
-- proofs/Arguments.antt shows that a call is not refused exactly where its arguments are so.
use Rattle.std.specs.Prelude.{ℕ, ◌≡◌, List, length}
use Rattle.field.specs.Vector.{Elements}
use Rattle.system.specs.System.{WellFormedSystem}

-- x has n elements; "Outputs count as arguments with an exact length": m bytes
pub record Evaluable (b x : List ℕ) (out : ℕ) : Type 0 where
  pub system : WellFormedSystem b
  pub x_length : length x ≡ system.n
  pub x_elements : Elements system.q x
  pub out_length : out ≡ system.m

-- the same with x and y
pub record Polarisable (b x y : List ℕ) (out : ℕ) : Type 0 where
  pub system : WellFormedSystem b
  pub x_length : length x ≡ system.n
  pub x_elements : Elements system.q x
  pub y_length : length y ≡ system.n
  pub y_elements : Elements system.q y
  pub out_length : out ≡ system.m
