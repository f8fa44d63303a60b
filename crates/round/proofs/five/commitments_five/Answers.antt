-- The callees' answers, put together. Assumes nothing.
use Rattle.commitment.specs.Commitment.{Com}
use Rattle.commitment.proofs.Texts.{content_is}
use Rattle.round.specs.FivePass.{commitments_five}
use Rattle.protocol.specs.Protocols.{r1_of, masked}
use Rattle.protocol.specs.Rounds.{map_of}
use Rattle.round.proofs.five.commitments_five.Goals as goal

pub returns : goal.returns
unfolding commitments_five Com r1_of masked map_of
returns c =
    simp (c.digest-2.ensures, content_is _ 96 _ c.string_two.ensures, c.digest.ensures, content_is _ 0 _ c.string_three.ensures, c.add_vectors-mask.ensures, c.g.ensures, c.r1_of-r1.ensures, c.m-m.ensures, c.n-n.ensures, c.q-q.ensures)
