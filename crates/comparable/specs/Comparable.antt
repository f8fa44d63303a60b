-- What an audit refuses before it looks for a full set: of the system, of each record, of records that differ, and of a round that is rejected.
use Rattle.std.specs.Prelude.{ℕ, cond, not, List, eqb, take, Option, Some, None, Result, Ok, Err}
use Rattle.std.specs.Borrow.{Bor}
use Rattle.slices.specs.Slices.{same}
use Rattle.refusal.specs.Refusal.{unless, ◌or_else◌, first_where}
use Rattle.system.specs.System.{system_refusal}
use Rattle.scheme.specs.declared.Scheme.{Scheme}
use Rattle.scheme.specs.declared.Scheme.TheVariants.{ThreePass, FivePass}
use Rattle.scheme.specs.Scheme.{byte_of}
use Rattle.record_form.specs.Record.{header_in, fields_in}
use Rattle.record.specs.Reader.{record_refusal}
use Rattle.transcript.specs.Transcript.{fit_refusal, accepted_round}
use Rattle.comparable.specs.declared.Rejection.{Rejection}

-- "each in turn 6 (size, edition), 1, 6 (table, length), then 3 or 4 ..; a scheme that the audit isn't for is 1"
unfoldable pub audited_refusal : Scheme → List ℕ → ℕ
audited_refusal scheme b = record_refusal b or_else unless (eqb (byte_of (header_in b).scheme) (byte_of scheme)) 1

-- 7: "audited records differ in a header, key or commitment"; "All bytes before the table are the header."
unfoldable pub difference_refusal : List ℕ → List ℕ → ℕ
difference_refusal a b =
    unless (same (take 6 a) (take 6 b)) 7 or_else
    unless (same (fields_in a).key (fields_in b).key) 7 or_else
    unless (same (fields_in a).commitments (fields_in b).commitments) 7

-- what is asked of a record, where there is one
abbrev pub of_record : (List ℕ → ℕ) → Option (Bor (List ℕ)) → ℕ
of_record asked None = 0
of_record asked (Some b) = asked b.now

-- of the fourth record: scheme 3 has none, and nothing is refused of it
unfoldable pub of_fourth : Scheme → ℕ → ℕ
of_fourth ThreePass number = 0
of_fourth FivePass number = number

-- "Audit and report check the system before any record.", then each record in turn, then 7
unfoldable pub comparable_refusal : Scheme → List ℕ → List ℕ → List ℕ → List ℕ → List ℕ → ℕ
comparable_refusal scheme system a b c d =
    system_refusal system or_else
    audited_refusal scheme a or_else
    audited_refusal scheme b or_else
    audited_refusal scheme c or_else
    of_fourth scheme (audited_refusal scheme d) or_else
    fit_refusal system a or_else
    difference_refusal a b or_else
    difference_refusal a c or_else
    of_fourth scheme (difference_refusal a d)

-- the first rejected round of a record, counted from 1; 0 where every round is accepted
unfoldable pub rejected_round : List ℕ → List ℕ → ℕ
rejected_round system b = first_where (header_in b).rounds (λ r. not (accepted_round system b r))

-- the rejected round of this record, or what the later ones have
unfoldable pub rejected_in : ℕ → ℕ → Rejection → Rejection
rejected_in whose round later = cond (eqb round 0) later (record { whose = whose; round = round })

-- no round is rejected
abbrev pub no_rejection : Rejection
no_rejection = record { whose = 0; round = 0 }

-- the rejection of an answer, or what the later records have
abbrev pub rejection_or : Rejection → Result Unit Rejection → Rejection
rejection_or later (Ok _) = later
rejection_or later (Err rejection) = rejection

-- the rejection of an answer
abbrev pub rejection_in : Result Unit Rejection → Rejection
rejection_in = rejection_or no_rejection

-- the same among the last two records
unfoldable pub later_rejection : Scheme → List ℕ → List ℕ → List ℕ → Rejection
later_rejection scheme system c d = rejected_in 3 (rejected_round system c) (rejected_in 4 (of_fourth scheme (rejected_round system d)) no_rejection)

-- 8: "a round of an audited record is rejected: first record, then first round, both given, counted from 1"
unfoldable pub rejection_of : Scheme → List ℕ → List ℕ → List ℕ → List ℕ → List ℕ → Rejection
rejection_of scheme system a b c d =
    rejected_in 1 (rejected_round system a) (rejected_in 2 (rejected_round system b) (later_rejection scheme system c d))
