-- The card's key is found. Assumes nothing.
use Rattle.book_lookup.proofs.Lookups.{place_there, answered_some}
use Rattle.book_lookup.proofs.lookup.Goals as goal

pub returns-clause-answer : goal.returns-clause-answer
returns-clause-answer c =
    answered_some _ _ _ _ _ c.in_ok-checked.ensures.refusal (place_there _ _ _ _ c.in_ok-checked.ensures.bytes c.place_of.ensures) c.in-Some.is c.key_of.ensures
