-- A card a turn, behind the first line. Assumes nothing.
use Prim.Native.Nat.{◌+◌, ◌*◌, ◌≤◌}
use Rattle.slices.specs.Slices.{joined}
use Rattle.text.specs.Writer.{Appends}
use Rattle.book_lines.specs.BookLines.{card_of}
use Rattle.book_lines.proofs.all_cards.Given as goal

abbrev pub invariant-loop-card : goal.invariant-loop-card
invariant-loop-card l =
    Appends l.initial.text l.text (joined l.card (card_of l.book.bytes.now)) × (l.text.written ≤ l.initial.text.written + 214 * l.card) × (l.card-end ≤ 2000)
