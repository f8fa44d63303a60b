-- Each arm follows its clause of what is opened. Assumes nothing.
use native.Mathlib.Omega.{arith}
use Rattle.commitment.specs.Commitment.{in_order}
use Rattle.commitment.proofs.Texts.{text_as}
use Rattle.protocol.specs.Protocols.{t0_of, e0_of, masked}
use Rattle.protocol.specs.Rounds.{map_of}
use Rattle.round.specs.Openings.{with_two, string_of, opening_at}
use Rattle.round.specs.ThreePass.{openings_three}
use Rattle.round.proofs.Clauses.{three_last}
use Rattle.round.proofs.three.first_opening.Goals as goal

pub returns-in-0 : goal.returns-in-0
unfolding string_of opening_at openings_three with_two in_order t0_of e0_of masked map_of
returns-in-0 c =
    text_as _ _ 96 _ c.string_two.ensures (simp (c.in-0.is, c.sub_vectors-e0.ensures, c.f.ensures, c.sub_vectors-t0.ensures, c.m-m.ensures, c.n-n.ensures, c.q-q.ensures))

pub returns-in-1 : goal.returns-in-1
unfolding string_of opening_at openings_three with_two in_order t0_of e0_of masked map_of
returns-in-1 c =
    text_as _ _ 96 _ c.string_two-in-1.ensures (simp (c.in-1.is, c.unmask.ensures, c.m-m.ensures, c.n-n.ensures))

pub returns-in_default : goal.returns-in_default
unfolding string_of opening_at openings_three with_two in_order t0_of e0_of masked map_of
returns-in_default c =
    let a = c.args in
    text_as _ _ 96 _ c.string_two-in_default.ensures (simp (three_last a.system.now.bytes.now a.v a.challenge a.reply (λ e. omega arith) (λ e. omega arith), c.add_vectors-mask.ensures, c.g.ensures, c.m-m.ensures, c.n-n.ensures, c.q-q.ensures))
