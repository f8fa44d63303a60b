-- The invariant: the first i entries stand behind the first seven bytes. Assumes nothing.
use Rattle.book_writer.proofs.Table.{TableTo}
use Rattle.book_writer.proofs.Cards.put_table.Given as goal

abbrev pub invariant-loop-i : goal.invariant-loop-i
invariant-loop-i l = TableTo l.initial.out l.self.front l.self.labels.now l.out l.i
