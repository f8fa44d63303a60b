-- `padding::padded_byte` meets its contract: each way out is one of the parts of a padded message.
use mathlib.Core.Path.{◌≡◌, sym, ap, ◌∙◌}
use Prim.Native.Nat.{ℕ, ◌*◌, ◌-◌, ◌<◌}
use native.Mathlib.Omega.{arith}
use lib.Arith.{lt_of_le-ne}
use lib.ListN.{length}
use Rattle.sha256_block.specs.Bytes.{byte_of}
use Rattle.sha256.proofs.PaddedMessage.{length_at, pad_message, pad_one, pad_zero, pad-length, length-pad}
use Rattle.sha256.proofs.padding.padded_byte.Goals as goal

pub returns-then-at-n : goal.returns-then-at-n
returns-then-at-n c =
    sym (pad_message c.args.message.now c.args.at (omega arith))

pub returns-then-at-n-2 : goal.returns-then-at-n-2
returns-then-at-n-2 c =
    sym (pad_one c.args.message.now c.args.at c.if-at-n-2.true)

pub returns-then-at-end : goal.returns-then-at-end
returns-then-at-end c =
    let m = c.args.message.now in
    let at = c.args.at in
    let above : length m < at = lt_of_le-ne c.if-at-n.false (λ e. c.if-at-n-2.false (sym e)) in
    sym (pad_zero m at above (omega arith))

pub length_byte-requires : goal.length_byte-requires
length_byte-requires c =
    omega (arith, length-pad c.args.message.now)

pub returns : goal.returns
returns c =
    let m = c.args.message.now in
    let at = c.args.at in
    let end : 64 * c.block_count.result - 8 ≡ length_at (length m) = omega arith in
    c.length_byte.ensures ∙ ap (λ (e : ℕ). byte_of 8 (8 * length m) (at - e)) end ∙ sym (pad-length m at (omega arith) c.requires.1)
