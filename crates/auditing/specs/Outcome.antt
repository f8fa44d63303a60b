-- The answers of an audit in document 01's terms, and what each is in the code's.
use Rattle.std.specs.Prelude.{ℕ, ◌≡◌, List, []}
use Rattle.slices.specs.Slices.{zeros}
use Rattle.commitment.specs.declared.Text.{Text}
use Rattle.commitment.specs.Texts.{text, content}
use Rattle.auditing.specs.declared.Finding.{Finding}
use Rattle.auditing.specs.declared.Finding.TheVariants.{Secret, Clash, Refused}
use Rattle.auditing.specs.declared.Audited.{Audited}

-- a secret; a clash, "its k and both whole hashed strings"; or a refusal by its number with a record and a round
pub data Outcome : Type 0 where
  secret : List ℕ → Outcome
  clash : ℕ → List ℕ → List ℕ → Outcome
  refused : ℕ → ℕ → ℕ → Outcome

-- a clash with the strings as the code holds them: "zero beyond their lengths, the secret zero"
unfoldable pub clashed : ℕ → Text → Text → Audited
clashed k x y = record { finding = Clash k; secret = zeros 96; first = x; second = y }

-- "both strings empty"; "On a refusal the secret and both strings are zero, with lengths 0."
unfoldable pub answer_of : Outcome → Audited
answer_of (secret s) = record { finding = Secret; secret = s; first = text []; second = text [] }
answer_of (clash k x y) = clashed k (text x) (text y)
answer_of (refused number whose round) = record { finding = Refused number whose round; secret = zeros 96; first = text []; second = text [] }

-- this document's number and values for each of the finding's cases
unfoldable pub outcome_by : Finding → Audited → Outcome
outcome_by Secret r = secret r.secret
outcome_by (Clash k) r = clash k (content r.first) (content r.second)
outcome_by (Refused number whose round) r = refused number whose round

unfoldable pub outcome_of : Audited → Outcome
outcome_of r = outcome_by r.finding r

-- the code's answer is that of the outcome, and its values are the outcome's
pub record Answers (r : Audited) (o : Outcome) : Type 0 where
  pub is : r ≡ answer_of o
  pub says : outcome_of r ≡ o
