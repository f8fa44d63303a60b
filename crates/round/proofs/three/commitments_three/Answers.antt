-- The digest of each string. Assumes nothing.
use Rattle.commitment.specs.Commitment.{Com}
use Rattle.commitment.proofs.Texts.{content_is}
use Rattle.round.specs.ThreePass.{commitments_three}
use Rattle.round.proofs.three.commitments_three.Goals as goal

pub returns : goal.returns
unfolding commitments_three Com
returns c =
    simp (c.digest-3.ensures, content_is _ 96 _ c.string_two-3.ensures, c.digest-2.ensures, content_is _ 96 _ c.string_two-2.ensures, c.digest.ensures, content_is _ 96 _ c.string_two.ensures)
