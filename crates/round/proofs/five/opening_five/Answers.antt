-- Each arm follows its clause of what is opened. Assumes nothing.
use native.Mathlib.Omega.{arith}
use Rattle.commitment.specs.Commitment.{in_order}
use Rattle.commitment.proofs.Texts.{text_as, no_more}
use Rattle.protocol.specs.Protocols.{t0_by, e0_by}
use Rattle.protocol.specs.Rounds.{map_of}
use Rattle.round.specs.Openings.{with_two, with_three, string_of, opening_at}
use Rattle.round.specs.FivePass.{openings_five}
use Rattle.round.proofs.Clauses.{five_last}
use Rattle.round.proofs.five.opening_five.Goals as goal

pub returns-in-0 : goal.returns-in-0
unfolding string_of opening_at openings_five with_two with_three in_order t0_by e0_by map_of
returns-in-0 c =
    text_as _ _ 0 _ c.string_three.ensures (simp (c.in-0.is, c.sub_vectors-e0.ensures, c.mul_vector-in-0.ensures, c.f.ensures, c.sub_vectors-t0.ensures, c.mul_vector.ensures, c.m-m.ensures, c.n-n.ensures, c.q-q.ensures))

pub returns-in_default : goal.returns-in_default
unfolding string_of opening_at openings_five with_two with_three in_order t0_by e0_by map_of
returns-in_default c =
    let a = c.args in
    text_as _ _ 0 _ (no_more _ 96 _ c.string_two.ensures) (simp (five_last a.system.now.bytes.now a.alpha a.v a.sent a.challenge a.reply (λ e. omega arith), c.unmasked_by-mask.ensures, c.m-m.ensures, c.n-n.ensures))
