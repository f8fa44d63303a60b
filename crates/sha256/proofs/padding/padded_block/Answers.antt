-- `padding::padded_block` meets its contract. The loop's invariant: the first j bytes of the array are the padded message's from
-- 64i on.
use mathlib.Core.Path.{refl, sym, ◌∙◌}
use Prim.Native.Nat.{ℕ, ◌+◌, ◌*◌}
use native.Mathlib.Omega.{arith}
use lib.ListN.{get_or}
use Rattle.slices.specs.Slices.{tabulate}
use Rattle.sha256.specs.Padding.{pad, block}
use Rattle.slices.proofs.Tabulate.{tabulate_of, fill_more, filled}
use Rattle.sha256.proofs.PaddedMessage.{length-pad, block_count-pad, length-block, block_at}
use Rattle.sha256.proofs.padding.padded_block.Goals as goal

pub overflow_mul-at : goal.overflow_mul-at
overflow_mul-at c =
    omega (arith, block_count-pad c.args.message.now)

pub loop-j-init : goal.loop-j-init
unfolding tabulate
loop-j-init c =
    (omega arith, refl, refl)

pub overflow_add-at : goal.overflow_add-at
overflow_add-at c =
    omega (arith, block_count-pad c.args.message.now)

pub padded_byte-requires : goal.padded_byte-requires
padded_byte-requires c =
    let m = c.args.message.now in omega (arith, block_count-pad m, length-pad m)

pub loop-j-preserved : goal.loop-j-preserved
loop-j-preserved c =
    let p = pad c.args.message.now in
    fill_more (λ k. get_or p (64 * c.args.i + k) 0) 64 64 c.loop-j.b c.loop-j.j c.padded_byte.result (omega arith) c.loop-j-test.true c.loop-j.invariant c.padded_byte.ensures

pub returns : goal.returns
returns c =
    let p = pad c.args.message.now in
    let i = c.args.i in
    let f : ℕ → ℕ = λ k. get_or p (64 * i + k) 0 in
    filled f 64 c.loop-j.b c.loop-j.j c.loop-j-test.false c.loop-j.invariant
    ∙ sym (tabulate_of (block p i) 64 f (length-block p i c.requires.1) (block_at p i c.requires.1))
