-- `block::load` meets its contract. The loop's invariant: the first i words of the array are the block's.
use Rattle.std.proofs.Common.{◌≡◌, refl, arith}
use Rattle.slices.specs.Slices.{tabulate}
use Rattle.sha256_block.specs.Bytes.{word_at}
use Rattle.sha256_block.specs.Block.{words_of}
use Rattle.slices.proofs.Tabulate.{fill_more}
use Rattle.sha256_block.proofs.block.load.Goals as goal

pub loop-i-init : goal.loop-i-init
unfolding tabulate
loop-i-init c =
    (omega arith, refl, refl)

pub loop-i-preserved : goal.loop-i-preserved
loop-i-preserved c =
    fill_more (word_at c.args.block.now) 16 64 c.loop-i.w c.loop-i.i c.word_at.result (omega arith) c.loop-i-test.true c.loop-i.invariant c.word_at.ensures

pub returns : goal.returns
unfolding words_of
returns c =
    let at_end : c.loop-i.i ≡ 16 = omega arith in
    (c.loop-i.invariant.1, rw at_end at c.loop-i.invariant.2)
