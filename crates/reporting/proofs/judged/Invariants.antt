-- A line a round, and the count of those that are accepted.
use Prim.Native.Nat.{◌+◌, ◌*◌, ◌≤◌}
use mathlib.Core.Path.{◌≡◌}
use Rattle.transcript.specs.Transcript.{accepted_count}
use Rattle.text.specs.Writer.{Appends}
use Rattle.reporting.specs.Report.{round_lines}
use Rattle.reporting.proofs.judged.Given as goal

abbrev pub invariant-loop-r : goal.invariant-loop-r
invariant-loop-r l =
    let system = l.system.bytes.now in
    (l.accepted ≤ l.r) × (l.accepted ≡ accepted_count system l.bytes l.r) × Appends l.initial.text l.text (round_lines system l.bytes l.r)
    × (l.text.written ≤ l.initial.text.written + 31 * l.r)
