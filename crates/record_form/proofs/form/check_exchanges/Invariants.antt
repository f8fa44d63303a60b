-- None of the rounds before r is refused.
use mathlib.Core.Path.{◌≡◌}
use Rattle.refusal.specs.Refusal.{first_of}
use Rattle.record_form.specs.Record.{exchange_of}
use Rattle.record_form.specs.Form.{exchange_refusal}
use Rattle.record_form.proofs.form.check_exchanges.Given as goal

abbrev pub invariant-loop-r : goal.invariant-loop-r
invariant-loop-r l = first_of l.r (λ r. exchange_refusal l.check l.h (exchange_of l.h l.exchanges r)) ≡ 0
