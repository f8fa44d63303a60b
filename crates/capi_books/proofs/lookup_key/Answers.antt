-- The output's length, then the lookup; what is not found stays, else the key is written. Assumes nothing.
use mathlib.Core.Path.{ap, ◌∙◌}
use native.Mathlib.Omega.{arith}
use Rattle.std.specs.Prelude.{Ok}
use Rattle.std.proofs.Common.{rules}
use Rattle.capi_books.proofs.Outputs.{no_room, found_key, absent_key, refused_key}
use Rattle.capi_books.proofs.lookup_key.Goals as goal

pub returns-then-key-ne-KEY_LENGTH : goal.returns-then-key-ne-KEY_LENGTH
returns-then-key-ne-KEY_LENGTH c = no_room _ _ _ _ c.if-key-ne-KEY_LENGTH.true c.from.ensures

pub returns-in-Ok-Some : goal.returns-in-Ok-Some
returns-in-Ok-Some c = found_key _ _ _ _ (omega arith) c.lookup.ensures.answer _ _ (c.in-Ok-Some.is ∙ ap Ok c.in-Ok-Some.field-0-is) (search rules)

pub returns-in-Ok-None : goal.returns-in-Ok-None
returns-in-Ok-None c = absent_key _ _ _ _ (omega arith) c.lookup.ensures.answer (c.in-Ok-None.is ∙ ap Ok c.in-Ok-None.field-0-is)

pub returns-in-Err : goal.returns-in-Err
returns-in-Err c = refused_key _ _ _ _ (omega arith) c.lookup.ensures.answer _ _ c.in-Err.is c.from-in-Err.ensures
