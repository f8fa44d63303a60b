-- What a reply opens: a list, each commitment by its number with ρ and vectors, and when a round is accepted. `ThreePass.antt` and `FivePass.antt` beside this
-- file give the list of each scheme.
use Rattle.std.specs.Prelude.{ℕ, zero, suc, ◌+◌, ◌*◌, Bool, true, cond, ◌&&◌, List, [], ◌∷◌, eqb, take}
use Rattle.slices.specs.Slices.{◌!◌, tabulate, same}
use Rattle.sha256.specs.Sha256.{sha256}
use Rattle.system.specs.System.{n_of, m_of}
use Rattle.commitment.specs.declared.Domain.{Domain}
use Rattle.commitment.specs.Commitment.{hashed_string, in_order}

-- "Opens c1 with (..)": commitment k, with ρ and the vectors
pub record Opening : Type 0 where
  pub k : ℕ
  pub ρ : List ℕ
  pub vectors : List (List ℕ)

-- the opening of commitment k with a vector of n elements and one of m
unfoldable pub with_two : List ℕ → ℕ → List ℕ → List ℕ → List ℕ → Opening
with_two b k ρ x y = record { k = k; ρ = ρ; vectors = take (n_of b) x ∷ take (m_of b) y ∷ [] }

-- with two of n elements and one of m
unfoldable pub with_three : List ℕ → ℕ → List ℕ → List ℕ → List ℕ → List ℕ → Opening
with_three b k ρ x y z = record { k = k; ρ = ρ; vectors = take (n_of b) x ∷ take (n_of b) y ∷ take (m_of b) z ∷ [] }

-- the string that is hashed
unfoldable pub string_of : Domain → Opening → List ℕ
string_of d o = hashed_string d o.k o.ρ (in_order o.vectors)

-- ---- the check

-- 32 bytes from a place on
unfoldable pub bytes_at : ℕ → List ℕ → List ℕ
bytes_at place l = tabulate 32 (λ i. l ! (place + i))

-- commitment k of a round: "32 bytes each"
unfoldable pub commitment_at : List ℕ → ℕ → List ℕ
commitment_at commitments k = bytes_at (32 * k) commitments

unfoldable pub opens_to : Domain → List ℕ → Opening → Bool
opens_to d commitments o = same (sha256 (string_of d o)) (commitment_at commitments o.k)

-- "A round is accepted exactly when both openings hash to their commitments.", "exactly when its opening hashes right": when every one does
unfoldable pub all_open : Domain → List ℕ → List Opening → Bool
all_open d commitments [] = true
all_open d commitments (o ∷ os) = opens_to d commitments o && all_open d commitments os

-- ---- one of the list

-- the one at place i, from 0
unfoldable pub opening_at : List Opening → ℕ → Opening
opening_at [] i = record { k = 0; ρ = []; vectors = [] }
opening_at (o ∷ os) zero = o
opening_at (o ∷ os) (suc i) = opening_at os i

-- the opening of commitment k, the last where it is no other's
unfoldable pub opening_of : ℕ → List Opening → Opening
opening_of k [] = record { k = 0; ρ = []; vectors = [] }
opening_of k (o ∷ []) = o
opening_of k (o ∷ o' ∷ os) = cond (eqb k o.k) o (opening_of k (o' ∷ os))
