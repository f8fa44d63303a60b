-- The invariant: none of the offsets before i is refused. Assumes nothing.
use mathlib.Core.Path.{◌≡◌}
use Rattle.refusal.specs.Refusal.{first_of}
use Rattle.book_reader.specs.Reader.{offset_refusal}
use Rattle.book_reader.proofs.check_offsets.Given as goal

abbrev pub invariant-loop-i : goal.invariant-loop-i
invariant-loop-i l = first_of l.i (offset_refusal l.front l.table) ≡ 0
