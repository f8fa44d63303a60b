-- Chains of answers that end at the first refusal. Assumes nothing.
use Rattle.std.specs.Prelude.{ℕ, Result, Err}
use mathlib.Core.Path.{◌≡◌, refl, sym, ap, ◌∙◌}
use native.Mathlib.Omega.{arith}
use Rattle.refusal.specs.declared.Refusal.{Refusal}
use Rattle.refusal.specs.declared.Refusal.TheVariants.{Value, Length, Element, Challenge, Secret, Form, Mismatch, Rejected, NoFullSet, NotDue, Closed, LabelHalf, LabelOrder}
use Rattle.refusal.specs.Refusal.{number, number_of, kept, ◌or_else◌}
use Rattle.refusal.proofs.Refusals.{later_decides}

-- a refusal has a number of its own, so it decides
pub refusal_decides : (refusal : Refusal) (rest : ℕ) → (number refusal or_else rest) ≡ number refusal
unfolding ◌or_else◌
refusal_decides Value rest = refl
refusal_decides Length rest = refl
refusal_decides Element rest = refl
refusal_decides Challenge rest = refl
refusal_decides Secret rest = refl
refusal_decides Form rest = refl
refusal_decides Mismatch rest = refl
refusal_decides Rejected rest = refl
refusal_decides NoFullSet rest = refl
refusal_decides NotDue rest = refl
refusal_decides Closed rest = refl
refusal_decides LabelHalf rest = refl
refusal_decides LabelOrder rest = refl

-- none is 0, so what follows decides
pub none_decides : (rest : ℕ) → (0 or_else rest) ≡ rest
none_decides rest = later_decides 0 rest refl

-- and no refusal has the number 0
pub refuses : (refusal : Refusal) → number refusal ≡ 0 → ⊥
refuses refusal zeroed =
    let one : 1 ≡ 0 = sym (none_decides 1) ∙ ap (λ (k : ℕ). k or_else 1) (sym zeroed) ∙ refusal_decides refusal 1 ∙ zeroed in
    absurd (omega (arith, one))

-- a call that refuses ends the chain, and what is handed on is its refusal
pub ends_chain : {A : Type 0} (answer : Result A Refusal) (refusal : Refusal) (here rest : ℕ) → answer ≡ Err refusal → number refusal ≡ here →
    number_of answer ≡ (here or_else rest)
ends_chain answer refusal here rest handed is = rw (handed, sym is) (sym (refusal_decides refusal rest))

-- one that does not leaves it to the rest
pub goes_on_chain : (answer here rest : ℕ) → 0 ≡ here → answer ≡ rest → answer ≡ (here or_else rest)
goes_on_chain answer here rest none later = rw (sym none) (later ∙ sym (none_decides rest))

-- what is refused stays
pub refused_kept : {A : Type 0} (refusal : Refusal) (old new : A) → kept (number refusal) old new ≡ old
unfolding kept
refused_kept Value old new = refl
refused_kept Length old new = refl
refused_kept Element old new = refl
refused_kept Challenge old new = refl
refused_kept Secret old new = refl
refused_kept Form old new = refl
refused_kept Mismatch old new = refl
refused_kept Rejected old new = refl
refused_kept NoFullSet old new = refl
refused_kept NotDue old new = refl
refused_kept Closed old new = refl
refused_kept LabelHalf old new = refl
refused_kept LabelOrder old new = refl

pub none_kept : {A : Type 0} (old new : A) → kept 0 old new ≡ new
unfolding kept
none_kept old new = refl

-- what a chain of answers needs, and a call of one branch for each
pub ruleset chain = (refusal_decides, none_decides, refused_kept, none_kept)
