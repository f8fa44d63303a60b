-- Document 01, "Refused because of the state", and the count of a session's rounds.
use Rattle.std.specs.Prelude.{ℕ, ◌+◌, min, cond, eqb}
use Rattle.refusal.specs.Refusal.{unless}

-- "10 a call that isn't the one due. 11 a closed session.": a phase by its number, 0 for closed
unfoldable pub state_refusal : ℕ → ℕ → ℕ
state_refusal phase due = cond (eqb phase 0) 11 (unless (eqb phase due) 10)

-- one round more; a byte holds no more than 255
unfoldable pub next_count : ℕ → ℕ
next_count k = min (k + 1) 255
