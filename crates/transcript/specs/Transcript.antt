-- The rounds of a record, counted from 0: their messages, whether each is accepted, and what is refused before they are judged.
use Rattle.std.specs.Prelude.{ℕ, zero, suc, ◌+◌, Bool, cond, List}
use Rattle.refusal.specs.Refusal.{unless, ◌or_else◌}
use Rattle.field.specs.Vector.{as_vector}
use Rattle.system.specs.System.{has_sizes, system_refusal}
use Rattle.record_form.specs.Record.{header_in, fields_in, commitments_of, exchange_of, turn_of, challenge_of, reply_of}
use Rattle.record_form.specs.Rounds.{Round}
use Rattle.record.specs.Reader.{record_refusal}
use Rattle.commitment.specs.declared.Domain.{Domain}
use Rattle.round.specs.Openings.{Opening}
use Rattle.exchange.specs.Messages.{openings, accepts}

-- 7: "q, n or m of the system differ from the .. record's"
unfoldable pub fit_refusal : List ℕ → List ℕ → ℕ
fit_refusal system b = unless (has_sizes system (header_in b).q (header_in b).n (header_in b).m) 7

-- "Audit and report check the system before any record.", then the record, then 7
unfoldable pub judge_refusal : List ℕ → List ℕ → ℕ
judge_refusal system b = system_refusal system or_else record_refusal b or_else fit_refusal system b

-- what stands before ρ in the strings of a record's rounds: "the scheme byte"
unfoldable pub domain_in : List ℕ → Domain
domain_in b = record { scheme = (header_in b).scheme }

-- "Key: v."
unfoldable pub key_vector : List ℕ → List ℕ
key_vector b = as_vector (fields_in b).key

-- "Commitments: 32 bytes each, 3 or 2 a round."
unfoldable pub round_commitments : List ℕ → ℕ → List ℕ
round_commitments b r = commitments_of (header_in b) (fields_in b).commitments r

-- "Exchange: scheme 3, challenge byte and reply; scheme 5, α, t1, e1, challenge byte, reply."
unfoldable pub round_exchange : List ℕ → ℕ → List ℕ
round_exchange b r = exchange_of (header_in b) (fields_in b).exchanges r

-- its parts
abbrev pub round_turn : List ℕ → ℕ → List ℕ
round_turn b r = turn_of (header_in b) (round_exchange b r)

unfoldable pub round_challenge : List ℕ → ℕ → ℕ
round_challenge b r = challenge_of (header_in b) (round_exchange b r)

abbrev pub round_reply : List ℕ → ℕ → List ℕ
round_reply b r = reply_of (header_in b) (round_exchange b r)

-- the round, by its messages
unfoldable pub round_in : List ℕ → ℕ → Round
round_in b r = record { commitments = round_commitments b r; turn = round_turn b r; challenge = round_challenge b r; reply = round_reply b r }

-- what its reply opens, by the definition of its scheme, for the system and the record's key
unfoldable pub round_openings : List ℕ → List ℕ → ℕ → List Opening
round_openings system b r = openings system (header_in b).scheme (key_vector b) (round_turn b r) (round_challenge b r) (round_reply b r)

-- the round is accepted by the check of its scheme, for the system and the record's key
unfoldable pub accepted_round : List ℕ → List ℕ → ℕ → Bool
accepted_round system b r =
    accepts system (domain_in b) (key_vector b) (round_commitments b r) (round_turn b r) (round_challenge b r) (round_reply b r)

-- how many of the first n rounds are accepted
unfoldable pub accepted_count : List ℕ → List ℕ → ℕ → ℕ
accepted_count system b zero = 0
accepted_count system b (suc n) = accepted_count system b n + cond (accepted_round system b n) 1 0
