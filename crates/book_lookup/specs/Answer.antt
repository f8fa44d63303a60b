-- What a lookup answers: document 02, paper 2.
use Rattle.std.specs.Prelude.{ℕ, List}

-- the answer's cases: the label is found, or absent, or the call is refused by this document's number
pub data Answer : Type 0 where
  Found : Answer
  Absent : Answer
  Refused : ℕ → Answer

-- with the key beside it
pub record LookedUp : Type 0 where
  pub answer : Answer
  pub key : List ℕ
