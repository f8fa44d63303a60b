-- No more is left than the file has, and each group takes some of it.
use Rattle.std.proofs.Common.{◌≤◌, length}
use denote.Param.Always.{always_mut}
use Rattle.cases.proofs.run.run_groups.Given as goal

abbrev pub invariant-cases : goal.invariant-cases
invariant-cases g l =
    (always_mut g.F.FnMut l.initial.call → always_mut g.F.FnMut l.call) × (length l.reader.rest.now ≤ length l.file) × (length l.reader.rest.now ≤ length l.initial.reader.rest.now)

abbrev pub invariant-groups : goal.invariant-groups
invariant-groups g l =
    (always_mut g.F.FnMut l.initial.call → always_mut g.F.FnMut l.call) × (length l.reader.rest.now ≤ length l.file)

abbrev pub decreases-groups : goal.decreases-groups
decreases-groups g l = length l.reader.rest.now
