-- Every round before r is accepted.
use Prim.Native.Nat.{ℕ}
use mathlib.Core.Path.{◌≡◌}
use mathlib.Core.Bool.{Bool, not}
use mathlib.Core.List.{List}
use Rattle.transcript.specs.Transcript.{accepted_round}
use Rattle.refusal.specs.Refusal.{first_where}
use Rattle.comparable.proofs.rejected_round.Given as goal

abbrev pub Rejects : List ℕ → List ℕ → ℕ → Bool
Rejects system b r = not (accepted_round system b r)

abbrev pub invariant-loop-r : goal.invariant-loop-r
invariant-loop-r l = first_where l.r (Rejects l.system.bytes.now l.bytes) ≡ 0
