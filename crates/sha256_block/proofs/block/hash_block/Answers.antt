-- `block::hash_block` meets its contract. The loop's invariant: the array holds the first t + 16 words of the message schedule, and
-- the working variables are those after t rounds.
use Rattle.std.proofs.Common.{◌≡◌, ℕ, ◌+◌, List, length, refl, ap, ◌∙◌, arith, length-set}
use Rattle.sha256_block.specs.State.{variables}
use Rattle.sha256_block.specs.Words.{Variables}
use Rattle.sha256_block.specs.Block.{words_of, schedule, rounds, added, compress}
use Rattle.sha256_block.proofs.MessageSchedule.{Holds, holds_first, holds_step, holds_all}
use Rattle.sha256_block.proofs.Rounds.{rounds_more}
use Rattle.slices.proofs.Tabulate.{length-tabulate}
use Rattle.sha256_block.proofs.block.hash_block.Goals as goal

length-words : (m : List ℕ) → length (words_of m) ≡ 16
unfolding words_of
length-words m = length-tabulate 16 _

pub loop-t-init : goal.loop-t-init
unfolding rounds
loop-t-init c =
    let block = c.args.block.now in
    (c.load-w.ensures.0, holds_first 48 (words_of block) c.load-w.result (length-words block) c.load-w.ensures.1, refl)

pub loop-t-preserved : goal.loop-t-preserved
loop-t-preserved c =
    let m = words_of c.args.block.now in
    let u = schedule 48 m in
    let t = c.loop-t.t in
    let inv = c.loop-t.invariant in
    let w = c.loop-t.w in
    let words : (length c.if-t-lt48.w ≡ 64) × Holds u c.if-t-lt48.w (t + 1 + 16) =
    elim c.if-t-lt48.branch [
      | goal.then-t-lt48 v ↦ rw v.w-is (simp length-set inv.0, holds_step m w t v.next_word.result (length-words _) inv.0 v.if-t-lt48.true inv.1 v.next_word.ensures)
      | goal.else-t-lt48 v ↦ rw v.w-is (inv.0, holds_all u w t v.if-t-lt48.false inv.1)
    ] in
    (words.0, words.1, rounds_more c.constants-k.result w u t (variables c.args.value) (variables c.loop-t.s) (variables c.round-s.result) c.constants-k.ensures (inv.1 t (omega arith) (omega arith)) inv.2 c.round-s.ensures)

pub returns : goal.returns
unfolding compress
returns c =
    let value = variables c.args.value in
    let at_end : c.loop-t.t ≡ 64 = omega arith in
    c.add_states.ensures ∙ ap (λ (v : Variables). added v value) (c.loop-t.invariant.2 ∙ ap (λ (t : ℕ). rounds t (schedule 48 (words_of c.args.block.now)) value) at_end)
