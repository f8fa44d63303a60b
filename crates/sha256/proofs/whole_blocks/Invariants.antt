-- The loop's invariant: the state is the hash value after the blocks before this one. Assumes nothing.
use mathlib.Core.Path.{◌≡◌}
use Rattle.sha256_block.specs.State.{variables}
use Rattle.sha256.specs.Padding.{pad}
use Rattle.sha256.specs.Sha256.{hash_value}
use Rattle.sha256.proofs.whole_blocks.Given as goal

abbrev pub invariant-loop-block : goal.invariant-loop-block
invariant-loop-block l = variables l.s ≡ hash_value (pad l.message) l.block-index
