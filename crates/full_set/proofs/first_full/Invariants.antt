-- No round so far has a full set.
use Prim.Native.Nat.{◌-◌, ◌≤◌}
use mathlib.Core.Path.{◌≡◌}
use Rattle.refusal.specs.Refusal.{first_where}
use Rattle.full_set.specs.FullSet.{full_set}
use Rattle.full_set.proofs.first_full.Given as goal

abbrev pub invariant-loop-r : goal.invariant-loop-r
invariant-loop-r l = (first_where l.r (full_set l.records.scheme l.records.a.now l.records.b.now l.records.c.now l.records.d.now) ≡ 0) × (l.r ≤ l.rounds) × (l.rounds ≤ 255)

abbrev pub decreases-loop-r : goal.decreases-loop-r
decreases-loop-r l = l.rounds - l.r
