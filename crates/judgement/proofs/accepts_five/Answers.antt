-- The one opening is held to its commitment, by cases on the challenge. Assumes nothing.
use mathlib.Core.Path.{◌∙◌}
use native.Mathlib.Omega.{arith}
use Rattle.round.specs.Openings.{with_two, with_three, opening_at}
use Rattle.round.specs.FivePass.{openings_five}
use Rattle.round.proofs.Clauses.{five_last, five_is_one}
use Rattle.judgement.proofs.Openings.{one_opens}
use Rattle.judgement.proofs.accepts_five.Goals as goal

pub returns-in-0 : goal.returns-in-0
unfolding openings_five opening_at with_two with_three
returns-in-0 c =
    let a = c.args in
    c.opens.ensures ∙
    one_opens a.d a.commitments.now (openings_five a.system.now.bytes.now a.alpha a.v a.sent a.challenge a.reply) (five_is_one a.system.now.bytes.now a.alpha a.v a.sent a.challenge a.reply)
    _ 0 c.opening_five-t.ensures (simp c.in-0.is)

pub returns-in_default : goal.returns-in_default
unfolding openings_five opening_at with_two with_three
returns-in_default c =
    let a = c.args in
    c.opens-in_default.ensures ∙
    one_opens a.d a.commitments.now (openings_five a.system.now.bytes.now a.alpha a.v a.sent a.challenge a.reply) (five_is_one a.system.now.bytes.now a.alpha a.v a.sent a.challenge a.reply)
    _ 1 c.opening_five-t.ensures (simp (five_last a.system.now.bytes.now a.alpha a.v a.sent a.challenge a.reply (omega arith)))
