-- Document 01, "Simulator": what it asks of the arguments of a call. Nothing here is taken from the refusal: proofs/Arguments.antt shows that a call is not
-- refused exactly where its arguments are so. `unanswered` is Ch*.
use Rattle.std.specs.Prelude.{ℕ, ◌+◌, ◌*◌, ◌≤◌, ◌≡◌, List, ◌++◌, length}
use Rattle.field.specs.Vector.{Elements}
use Rattle.system.specs.System.{WellFormedSystem}

-- a vector of n elements, one byte an element
abbrev pub VectorBytes : ℕ → ℕ → List ℕ → Type 0
VectorBytes q n l = (length l ≡ n) × Elements q l

-- "lent s', r0, t0, e0, ρ0..ρ2", as "r0 (n), t0 (n), e0 (m)", with s' before them, and "32 bytes ρ" of any value
pub record LentPieces (q n m : ℕ) (lent : List ℕ) : Type 0 where
  pub s' : List ℕ
  pub r0 : List ℕ
  pub t0 : List ℕ
  pub e0 : List ℕ
  pub ρ0 : List ℕ
  pub ρ1 : List ℕ
  pub ρ2 : List ℕ
  pub laid_out : lent ≡ s' ++ r0 ++ t0 ++ e0 ++ ρ0 ++ ρ1 ++ ρ2
  pub s'_is : VectorBytes q n s'
  pub r0_is : VectorBytes q n r0
  pub t0_is : VectorBytes q n t0
  pub e0_is : VectorBytes q m e0
  pub ρ0_length : length ρ0 ≡ 32
  pub ρ1_length : length ρ1 ≡ 32
  pub ρ2_length : length ρ2 ≡ 32

-- "from the system, v, challenges Ch* and Ch and lent" pieces; the outputs "with an exact length": three digests, and "A reply has 2n + m + 64 bytes."
pub record Simulable (b v : List ℕ) (unanswered challenge : ℕ) (lent : List ℕ) (commitments reply : ℕ) : Type 0 where
  pub system : WellFormedSystem b
  pub key : VectorBytes system.q system.m v
  pub pieces : LentPieces system.q system.n system.m lent
  pub commitments_length_is : commitments ≡ 3 * 32
  pub reply_length_is : reply ≡ 2 * system.n + system.m + 64
  pub unanswered_value : unanswered ≤ 2
  pub challenge_value : challenge ≤ 2
  pub other : challenge ≡ unanswered → ⊥
