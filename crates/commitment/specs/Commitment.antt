-- Document 01, "Commitments".
use Rattle.std.specs.Prelude.{ℕ, ◌+◌, ◌*◌, List, [], ◌∷◌, ◌++◌, length, drop}
use Rattle.scheme.specs.Scheme.{byte_of}
use Rattle.sha256.specs.Sha256.{sha256}
use Rattle.commitment.specs.declared.Domain.{Domain}

-- ---- the hashed string

-- "the scheme byte (3 or 5), the byte k (which commitment)": all that stands before ρ
unfoldable pub prefix : Domain → ℕ → List ℕ
prefix d k = byte_of d.scheme ∷ k ∷ []

-- "32 bytes ρ, then the vectors in order, one byte an element"
unfoldable pub hashed_string : Domain → ℕ → List ℕ → List ℕ → List ℕ
hashed_string d k ρ vectors = prefix d k ++ (ρ ++ vectors)

-- "the vectors in order": one behind the other
unfoldable pub in_order : List (List ℕ) → List ℕ
in_order [] = []
in_order (v ∷ []) = v
in_order (v ∷ w ∷ vs) = v ++ in_order (w ∷ vs)

-- "Com(k, ρ, vectors) is SHA-256 of" that string
unfoldable pub Com : Domain → ℕ → List ℕ → List ℕ → List ℕ
Com d k ρ vectors = sha256 (hashed_string d k ρ vectors)

-- ---- its lengths

-- where the vectors stand in it: behind the prefix, as long for each k, and "32 bytes ρ"
unfoldable pub vectors_at : Domain → ℕ
vectors_at d = length (prefix d 0) + 32

-- the vectors of a string
unfoldable pub vectors_in : Domain → List ℕ → List ℕ
vectors_in d string = drop (vectors_at d) string

-- the most that stands before ρ: the scheme byte and k
abbrev pub prefix_most : ℕ
prefix_most = 2

-- "The longest string is 322 bytes.": the prefix, ρ, and three vectors of 96 elements
abbrev pub longest : ℕ
longest = prefix_most + 32 + 3 * 96
