-- By whether a round is left. Assumes nothing.
use borrow.Author.Tests.{lt-ltb, le-ltb}
use Rattle.slices.specs.Slices.{zeros}
use Rattle.card_state.specs.Card.{next_card, replied_card}
use Rattle.card.proofs.replies.replied_card.Goals as goal

pub returns-then-next-card : goal.returns-then-next-card
unfolding replied_card next_card zeros
returns-then-next-card c =
    let count = c.next_count-next.ensures in
    let below = rw count at c.if-next-card.true in
    simp (lt-ltb _ _ below, c.card_with.ensures, c.no_lent.ensures, count)

pub returns-else-next-card : goal.returns-else-next-card
unfolding replied_card next_card zeros
returns-else-next-card c =
    let count = c.next_count-next.ensures in
    let last = rw count at c.if-next-card.false in
    simp (le-ltb _ _ last) c.closed_card.ensures
