-- Each session moves on, and there are no more of them than bytes.
use Rattle.std.proofs.Common.{◌+◌, ◌≤◌, length}
use Rattle.demo.proofs.play_all.Given as goal

abbrev pub invariant-sessions : goal.invariant-sessions
invariant-sessions g l = l.number + length l.rest ≤ length l.input + 1

abbrev pub decreases-sessions : goal.decreases-sessions
decreases-sessions g l = length l.rest
