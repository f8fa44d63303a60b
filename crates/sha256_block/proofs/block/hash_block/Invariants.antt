-- `block::hash_block` meets its contract. The loop's invariant: the array holds the first t + 16 words of the message schedule, and
-- the working variables are those after t rounds.
use Rattle.std.proofs.Common.{◌≡◌, ◌+◌, length}
use Rattle.sha256_block.specs.State.{variables}
use Rattle.sha256_block.specs.Block.{words_of, schedule, rounds}
use Rattle.sha256_block.proofs.MessageSchedule.{Holds}
use Rattle.sha256_block.proofs.block.hash_block.Given as goal

abbrev pub invariant-loop-t : goal.invariant-loop-t
invariant-loop-t l =
    (length l.w ≡ 64) × Holds (schedule 48 (words_of l.block)) l.w (l.t + 16)
    × (variables l.s ≡ rounds l.t (schedule 48 (words_of l.block)) (variables l.value))
