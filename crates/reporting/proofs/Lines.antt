-- The text of a report grows by a line a round, and so does the count of those that are accepted. Assumes nothing.
use Prim.Native.Nat.{ℕ, ◌+◌, ◌≤◌}
use mathlib.Core.Path.{◌≡◌, refl, ap}
use mathlib.Core.Bool.{Bool, true, false, cond}
use mathlib.Core.List.{List, [], ◌++◌}
use native.Mathlib.Numerals.{add-one}
use native.Mathlib.Omega.{arith}
use Rattle.transcript.specs.Transcript.{round_challenge, accepted_round, accepted_count}
use Rattle.transcript.proofs.Counts.{as_count}
use Rattle.report_lines.specs.ReportLines.{round_line}
use Rattle.reporting.specs.Report.{round_lines}
use Rattle.reporting.proofs.RoundLines.{accepted_lines, rejected_lines}

module _ (system b : List ℕ) where
  pub no_lines : round_lines system b 0 ≡ []
  unfolding round_lines
  no_lines = refl

  pub one_line : (r : ℕ) → round_lines system b (r + 1) ≡ round_lines system b r ++ round_line (r + 1) (round_challenge b r) (accepted_round system b r)
  unfolding round_lines
  one_line r = ap (round_lines system b) (add-one r)

  pub none_counted : accepted_count system b 0 ≡ 0
  unfolding accepted_count
  none_counted = refl

  pub one_counted : (r : ℕ) → accepted_count system b (r + 1) ≡ accepted_count system b r + cond (accepted_round system b r) 1 0
  unfolding accepted_count
  one_counted r = rw (add-one r) refl

pub at_most_one : (t : Bool) → cond t 1 0 ≤ 1
at_most_one true = omega arith
at_most_one false = omega arith

-- what the loop over the rounds wants
pub ruleset rounds = (no_lines, one_line, none_counted, one_counted, as_count, at_most_one, accepted_lines, rejected_lines)
