-- What the reply of a round opens: the hashed strings, their comparison, and the secret that two replies give.
use Rattle.std.specs.Prelude.{ℕ, Bool, List}
use Rattle.slices.specs.Slices.{same}
use Rattle.field.specs.Vector.{slot_v, add_v}
use Rattle.system.specs.System.{n_of, ops_of}
use Rattle.commitment.specs.declared.Domain.{Domain}
use Rattle.commitment.specs.Commitment.{vectors_in}
use Rattle.round.specs.Openings.{string_of, opening_of}
use Rattle.transcript.specs.Transcript.{domain_in, round_reply, round_openings}

-- the string with which round r of a record opens commitment k, where its challenge opens it
unfoldable pub string_in : List ℕ → List ℕ → ℕ → ℕ → List ℕ
string_in system b r k = string_of (domain_in b) (opening_of k (round_openings system b r))

-- "Openings are compared by their vectors, ρ ignored"
unfoldable pub same_vectors : Domain → List ℕ → List ℕ → Bool
same_vectors d x y = same (vectors_in d x) (vectors_in d y)

-- the first vector of a reply: r0 to challenge 0, r1 to challenge 1
unfoldable pub reply_vector : List ℕ → List ℕ → ℕ → List ℕ
reply_vector system b r = slot_v (n_of system) 0 (round_reply b r)

-- "s = r0 + r1", from the replies of two records
unfoldable pub secret_of : List ℕ → List ℕ → List ℕ → ℕ → List ℕ
secret_of system x y r = add_v (ops_of system) (n_of system) (reply_vector system x r) (reply_vector system y r)
