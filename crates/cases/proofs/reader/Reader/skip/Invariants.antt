-- No piece adds to what is left.
use Rattle.std.proofs.Common.{◌≤◌, length}
use Rattle.cases.proofs.reader.Reader.skip.Given as goal

abbrev pub invariant-loop : goal.invariant-loop
invariant-loop l = length l.self.rest.now ≤ length l.initial.self.rest.now
