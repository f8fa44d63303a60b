-- One round more of a block's hash. Assumes nothing.
use Rattle.std.proofs.Common.{◌≡◌, ℕ, ◌+◌, List, get_or, sym, ap, ◌∙◌, add-one}
use Rattle.sha256_block.specs.Words.{Variables}
use Rattle.sha256_block.specs.Constants.{K}
use Rattle.sha256_block.specs.Block.{round, rounds}

-- r is the round's outcome, s what it starts from, w an array that has the schedule's word t
pub rounds_more : (k w u : List ℕ) (t : ℕ) (v s r : Variables) → k ≡ K → get_or w t 0 ≡ get_or u t 0 → s ≡ rounds t u v
    → r ≡ round (get_or k t 0) (get_or w t 0) s → r ≡ rounds (t + 1) u v
unfolding rounds
rounds_more k w u t v s r ek ew es er =
    er ∙ (λ i. round (get_or (ek i) t 0) (ew i) (es i)) ∙ ap (λ (n : ℕ). rounds n u v) (sym (add-one t))
