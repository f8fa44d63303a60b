-- Both openings are held to their commitments, by cases on the challenge and on the first test. Assumes nothing.
use native.Mathlib.Omega.{arith}
use Rattle.round.specs.Openings.{with_two, opening_at}
use Rattle.round.specs.ThreePass.{openings_three}
use Rattle.round.proofs.Clauses.{three_last}
use Rattle.judgement.proofs.Openings.{second_decides, first_decides}
use Rattle.judgement.proofs.accepts_three.Goals as goal

pub returns-then-opens : goal.returns-then-opens
unfolding openings_three opening_at with_two
returns-then-opens c =
    let a = c.args in
    second_decides a.d a.commitments.now a.system.now.bytes.now a.v a.challenge a.reply _ _ 1 2 c.first_opening-a.ensures (c.second_opening-b.ensures.1 a.v)
    (simp c.in-0.is) (simp c.in-0.is)
    _ _ c.if-opens.true c.opens.ensures c.opens-then-opens.ensures

pub returns-else-opens : goal.returns-else-opens
unfolding openings_three opening_at with_two
returns-else-opens c =
    let a = c.args in
    first_decides a.d a.commitments.now a.system.now.bytes.now a.v a.challenge a.reply _ _ 1 2 c.first_opening-a.ensures (c.second_opening-b.ensures.1 a.v)
    (simp c.in-0.is) (simp c.in-0.is)
    _ c.if-opens.false c.opens.ensures

pub returns-then-opens-2 : goal.returns-then-opens-2
unfolding openings_three opening_at with_two
returns-then-opens-2 c =
    let a = c.args in
    second_decides a.d a.commitments.now a.system.now.bytes.now a.v a.challenge a.reply _ _ 0 2 c.first_opening-a.ensures (c.second_opening-b.ensures.1 a.v)
    (simp c.in-1.is) (simp c.in-1.is)
    _ _ c.if-opens-2.true c.opens-in-1.ensures c.opens-then-opens-2.ensures

pub returns-else-opens-2 : goal.returns-else-opens-2
unfolding openings_three opening_at with_two
returns-else-opens-2 c =
    let a = c.args in
    first_decides a.d a.commitments.now a.system.now.bytes.now a.v a.challenge a.reply _ _ 0 2 c.first_opening-a.ensures (c.second_opening-b.ensures.1 a.v)
    (simp c.in-1.is) (simp c.in-1.is)
    _ c.if-opens-2.false c.opens-in-1.ensures

pub returns-then-opens-3 : goal.returns-then-opens-3
unfolding openings_three opening_at with_two
returns-then-opens-3 c =
    let a = c.args in
    second_decides a.d a.commitments.now a.system.now.bytes.now a.v a.challenge a.reply _ _ 0 1 c.first_opening-a.ensures (c.second_opening-b.ensures.1 a.v)
    (simp (three_last a.system.now.bytes.now a.v a.challenge a.reply (omega arith) (omega arith))) (simp (three_last a.system.now.bytes.now a.v a.challenge a.reply (omega arith) (omega arith)))
    _ _ c.if-opens-3.true c.opens-in_default.ensures c.opens-then-opens-3.ensures

pub returns-else-opens-3 : goal.returns-else-opens-3
unfolding openings_three opening_at with_two
returns-else-opens-3 c =
    let a = c.args in
    first_decides a.d a.commitments.now a.system.now.bytes.now a.v a.challenge a.reply _ _ 0 1 c.first_opening-a.ensures (c.second_opening-b.ensures.1 a.v)
    (simp (three_last a.system.now.bytes.now a.v a.challenge a.reply (omega arith) (omega arith))) (simp (three_last a.system.now.bytes.now a.v a.challenge a.reply (omega arith) (omega arith)))
    _ c.if-opens-3.false c.opens-in_default.ensures
