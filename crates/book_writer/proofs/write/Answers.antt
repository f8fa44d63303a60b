-- The output has room for the book. Assumes nothing.
use Rattle.book_writer.proofs.BookTrip.{exact_room}
use Rattle.book_writer.proofs.write.Goals as goal

pub put-requires : goal.put-requires
put-requires c = exact_room _ _ _ _ _ c.in_ok-new.ensures.refusal c.in_ok-new.ensures.fields
