-- Each arm follows its clause of what is opened. Assumes nothing.
use native.Mathlib.Omega.{arith}
use Rattle.commitment.specs.Commitment.{in_order}
use Rattle.commitment.proofs.Texts.{text_as}
use Rattle.round.specs.Openings.{with_two, string_of, opening_at}
use Rattle.round.specs.ThreePass.{openings_three}
use Rattle.round.proofs.Clauses.{second_of_c2, three_last}
use Rattle.round.proofs.three.second_opening.Goals as goal

pub returns-in-0 : goal.returns-in-0
unfolding string_of with_two in_order
returns-in-0 c =
    let a = c.args in
    (c.string_two.ensures.fits, λ v. text_as _ _ 96 _ c.string_two.ensures (simp (second_of_c2 a.system.now v a.challenge a.reply (omega arith), c.byte_at-m.ensures, c.byte_at-n.ensures)))

pub returns-in_default : goal.returns-in_default
unfolding string_of opening_at openings_three with_two in_order
returns-in_default c =
    let a = c.args in
    (c.string_two-in_default.ensures.fits, λ v. text_as _ _ 96 _ c.string_two-in_default.ensures (simp (three_last a.system.now v a.challenge a.reply (λ e. omega arith) (λ e. omega arith), c.byte_at-m.ensures, c.byte_at-n.ensures)))
