-- The invariant: none of the labels before i is refused. Assumes nothing.
use mathlib.Core.Path.{◌≡◌}
use Rattle.refusal.specs.Refusal.{first_of}
use Rattle.book_form.specs.Labels.{label_refusal}
use Rattle.book_form.proofs.labels.Labels.check.Given as goal

abbrev pub invariant-loop-i : goal.invariant-loop-i
invariant-loop-i l = first_of l.i (label_refusal l.self.each l.self.bytes.now) ≡ 0
