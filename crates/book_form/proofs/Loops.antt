-- Loops that end at the first that refuses. Assumes nothing.
use Rattle.std.specs.Prelude.{ℕ, ◌<◌, Result, Err}
use mathlib.Core.Path.{◌≡◌, sym, ap, ◌∙◌}
use native.Mathlib.Omega.{arith}
use Rattle.refusal.specs.declared.Refusal.{Refusal}
use Rattle.refusal.specs.Refusal.{number, number_of, first_of, ◌or_else◌}
use Rattle.refusal.proofs.Answers.{refusal_decides, none_decides}
use Rattle.refusal.proofs.Chains.{first_here}

-- a refusal's number is none that stands for no refusal
pub some_number : (refusal : Refusal) → number refusal ≡ 0 → ⊥
some_number refusal none = absurd (omega (arith, sym (none_decides 1) ∙ ap (λ (k : ℕ). k or_else 1) (sym none) ∙ refusal_decides refusal 1 ∙ none))

-- none of the calls before it refused, so its refusal is the loop's
pub ends_loop : {A : Type 0} (answer : Result A Refusal) (refusal : Refusal) (each : ℕ → ℕ) (n i : ℕ) → answer ≡ Err refusal → first_of i each ≡ 0 →
    number refusal ≡ each i → i < n → number_of answer ≡ first_of n each
ends_loop answer refusal each n i handed none is below = rw handed (first_here each n i (number refusal) none is (some_number refusal) below)
