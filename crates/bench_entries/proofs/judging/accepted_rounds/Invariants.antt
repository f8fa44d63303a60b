-- The count of the rounds that are accepted, one more in each turn. Assumes nothing.
use Prim.Native.Nat.{◌≤◌}
use mathlib.Core.Path.{◌≡◌}
use Rattle.transcript.specs.Transcript.{accepted_count}
use Rattle.bench_entries.proofs.judging.accepted_rounds.Given as goal

abbrev pub invariant-loop-r : goal.invariant-loop-r
invariant-loop-r l = (l.accepted ≤ l.r) × (l.accepted ≡ accepted_count l.system.bytes.now l.bytes l.r)
