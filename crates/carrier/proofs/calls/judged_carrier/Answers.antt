-- By cases on the judgement and on the count. Assumes nothing.
use mathlib.Core.Path.{sym}
use native.Mathlib.Omega.{arith}
use borrow.Author.Tests.{lt-ltb, le-ltb}
use Rattle.carrier_state.specs.Carrier.{judged_carrier}
use Rattle.carrier.proofs.calls.judged_carrier.Goals as goal

pub returns-then-not-accepted : goal.returns-then-not-accepted
unfolding judged_carrier
returns-then-not-accepted c =
    simp (c.if-not-accepted.true, c.closed_carrier.ensures)

pub returns-then-next-c : goal.returns-then-next-c
unfolding judged_carrier
returns-then-next-c c =
    simp (c.if-not-accepted.false, sym c.next_count-next.ensures, lt-ltb c.next_count-next.result c.args.c.rounds (omega (arith, c.if-next-c.true)), c.carrier_with.ensures, c.no_turn.ensures, c.held_commitments-none.ensures)

pub returns-else-next-c : goal.returns-else-next-c
unfolding judged_carrier
returns-else-next-c c =
    simp (c.if-not-accepted.false, sym c.next_count-next.ensures, le-ltb c.next_count-next.result c.args.c.rounds (omega (arith, c.if-next-c.false)), c.closed_carrier-else-next-c.ensures)
