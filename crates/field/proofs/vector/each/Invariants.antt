-- The loop's invariant: what is filled so far is the vector of its first i elements. Assumes nothing.
use Rattle.field.specs.Combined.{Combined}
use Rattle.field.proofs.vector.each.Given as goal

abbrev pub invariant-loop-i : goal.invariant-loop-i
invariant-loop-i g l = Combined (goal.F-post g l.f) l.i l.x l.y l.z
