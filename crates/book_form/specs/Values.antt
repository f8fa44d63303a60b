-- What is refused of the numbers before the table, of a book or of a writer's: "count comes first, then 1".
use Rattle.std.specs.Prelude.{ℕ, leb}
use Rattle.refusal.specs.Refusal.{unless, ◌or_else◌}
use Rattle.system.specs.System.{are_sizes}
use Rattle.book_form.specs.declared.layout.Front.{Front}

unfoldable pub values_refusal : Front → ℕ
values_refusal h = unless (leb h.count 2000) 6 or_else unless (are_sizes h.q h.n h.m) 1
