-- `block::load` meets its contract. The loop's invariant: the first i words of the array are the block's.
use Rattle.sha256_block.specs.Bytes.{word_at}
use Rattle.slices.proofs.Tabulate.{Filled}
use Rattle.sha256_block.proofs.block.load.Given as goal

abbrev pub invariant-loop-i : goal.invariant-loop-i
invariant-loop-i l = Filled (word_at l.block) 16 64 l.w l.i
