-- None of the rounds before r is refused, and the first that is decides. Assumes nothing.
use Prim.Native.Nat.{ℕ, ◌*◌, ◌≤◌, ◌<◌}
use mathlib.Core.Path.{◌≡◌, refl, sym, ap, ◌∙◌}
use mathlib.Core.List.{List}
use native.Mathlib.Omega.{arith}
use lib.ListN.{take, drop}
use Rattle.std.specs.Prelude.{Result, Err}
use Rattle.std.proofs.Common.{rules}
use Rattle.refusal.specs.declared.Refusal.{Refusal}
use Rattle.refusal.specs.Refusal.{number, number_of, first_of}
use Rattle.refusal.proofs.Chains.{none_at_start, none_so_far, first_here}
use Rattle.refusal.proofs.Answers.{refuses}
use Rattle.record_form.specs.declared.layout.Header.{Header}
use Rattle.record_form.specs.declared.form.Check.{Check}
use Rattle.record_form.specs.Record.{exchange_length, exchange_of}
use Rattle.record_form.specs.Form.{exchange_refusal, exchanges_refusal}
use Rattle.record_form.proofs.form.check_exchanges.Goals as goal

-- the bytes that are looked at are the exchange of round r
of_round : (check : Check) (h : Header) (exchanges part : List ℕ) (each place r x : ℕ) → x ≡ exchange_refusal check h part → part ≡ take each (drop place exchanges) →
    place ≡ r * each → each ≡ exchange_length h → x ≡ exchange_refusal check h (exchange_of h exchanges r)
unfolding exchange_of
of_round check h exchanges part each place r x is looked at long =
    is ∙ ap (exchange_refusal check h) (looked ∙ ap (λ (k : ℕ). take each (drop k exchanges)) at ∙ ap (λ (k : ℕ). take k (drop (r * k) exchanges)) long)

-- round r is refused, and none before it
ends_here : (answer : Result Unit Refusal) (refusal : Refusal) (check : Check) (h : Header) (exchanges : List ℕ) (r : ℕ) → answer ≡ Err refusal →
    first_of r (λ k. exchange_refusal check h (exchange_of h exchanges k)) ≡ 0 → number refusal ≡ exchange_refusal check h (exchange_of h exchanges r) → r < h.rounds →
    number_of answer ≡ exchanges_refusal check h exchanges
unfolding exchanges_refusal
ends_here answer refusal check h exchanges r handed none is below = rw handed (first_here _ h.rounds r (number refusal) none is (refuses refusal) below)

-- no round is refused
none_refused : (check : Check) (h : Header) (exchanges : List ℕ) (r : ℕ) → first_of r (λ k. exchange_refusal check h (exchange_of h exchanges k)) ≡ 0 →
    r ≤ h.rounds → h.rounds ≤ r → 0 ≡ exchanges_refusal check h exchanges
unfolding exchanges_refusal
none_refused check h exchanges r none low high = sym none ∙ ap (λ (n : ℕ). first_of n (λ k. exchange_refusal check h (exchange_of h exchanges k))) (omega arith)

pub loop-r-init : goal.loop-r-init
loop-r-init c = none_at_start _ _ refl

pub returns-in_err-check_exchange : goal.returns-in_err-check_exchange
unfolding exchange_length
returns-in_err-check_exchange c =
    ends_here _ _ _ _ _ _ (search rules) c.loop-r.invariant
    (of_round _ _ _ _ _ _ _ _ c.in_err-check_exchange.ensures c.part.ensures c.of_rounds.ensures.0 c.exchange_length-each.ensures.0) c.loop-r-test.true

pub loop-r-preserved : goal.loop-r-preserved
unfolding exchange_length
loop-r-preserved c =
    none_so_far _ _ _ 0 c.loop-r.invariant (of_round _ _ _ _ _ _ _ _ c.in_ok-check_exchange.ensures c.part.ensures c.of_rounds.ensures.0 c.exchange_length-each.ensures.0) refl refl

pub returns : goal.returns
returns c = none_refused _ _ _ _ c.loop-r.invariant c.loop-r.auto.r-end c.loop-r-test.false
