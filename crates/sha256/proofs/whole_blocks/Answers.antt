-- `whole_blocks` meets its contract: block i of the slice as blocks is the padded message's, since it is whole in the message.
use mathlib.Core.Path.{sym, ap, ◌∙◌}
use Prim.Native.Nat.{ℕ, ◌/◌}
use native.Mathlib.Omega.{arith}
use mathlib.Core.List.{List, []}
use lib.ListN.{length, get_or}
use Rattle.sha256_block.specs.State.{variables}
use Rattle.sha256.specs.Padding.{pad}
use Rattle.sha256.specs.Sha256.{hash_value}
use Rattle.sha256.proofs.PaddedMessage.{whole_block, chunk_block}
use Rattle.sha256.proofs.HashValue.{hash_value_more}
use Rattle.sha256.proofs.whole_blocks.Goals as goal

pub loop-block-init : goal.loop-block-init
unfolding hash_value
loop-block-init c =
    c.initial_state-s.ensures

pub loop-block-preserved : goal.loop-block-preserved
loop-block-preserved c =
    let m = c.args.message.now in
    let i = c.loop-block.block-index in
    hash_value_more (pad m) _ i (variables c.loop-block.s) (variables c.hash_block-s.result) (ap (λ (l : List (List ℕ)). get_or l i []) c.as_chunks.ensures.front ∙ chunk_block m (length m / 64) i (omega arith) ∙ sym (whole_block m i (omega arith))) c.loop-block.invariant c.hash_block-s.ensures
