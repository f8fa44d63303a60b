-- `last_value` meets its contract. The loop's invariant: the state is the hash value after the first i blocks of the padded message.
use mathlib.Core.Path.{◌≡◌, ap, ◌∙◌}
use native.Mathlib.Omega.{arith}
use lib.ListN.{length}
use Rattle.sha256_block.specs.State.{variables}
use Rattle.sha256.specs.Padding.{pad, block_count}
use Rattle.sha256.proofs.PaddedMessage.{block_count-pad, length-block}
use Rattle.sha256.proofs.HashValue.{hash_value_more}
use Rattle.sha256.proofs.last_value.Goals as goal

pub padded_block-b-requires : goal.padded_block-b-requires
padded_block-b-requires c =
    omega (arith, block_count-pad c.args.message.now)

pub hash_block-s-requires : goal.hash_block-s-requires
hash_block-s-requires c =
    let m = c.args.message.now in
    ap length c.padded_block-b.ensures ∙ length-block (pad m) c.loop-i.i (omega (arith, block_count-pad m))

pub loop-i-preserved : goal.loop-i-preserved
loop-i-preserved c =
    let m = c.args.message.now in
    hash_value_more (pad m) c.padded_block-b.result c.loop-i.i (variables c.loop-i.s) (variables c.hash_block-s.result) c.padded_block-b.ensures c.loop-i.invariant c.hash_block-s.ensures

pub returns : goal.returns
returns c =
    let m = c.args.message.now in
    let at_end : c.loop-i.i ≡ block_count (pad m) = omega (arith, block_count-pad m) in
    rw at_end at c.loop-i.invariant
