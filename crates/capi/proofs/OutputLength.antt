-- An audit's refusals and the length of its output. Assumes nothing.
use Prim.Native.Nat.{ℕ, zero, suc}
use mathlib.Core.Path.{◌≡◌, refl, sym, ap, ◌∙◌}
use mathlib.Core.List.{List}
use native.Mathlib.Omega.{arith}
use lib.Dec.{eqb}
use borrow.Author.Tests.{eq-eqb, ne_eqb}
use Rattle.refusal.specs.Refusal.{unless, ◌or_else◌, kept}
use Rattle.refusal.proofs.Refusals.{later_zero, first_decides, later_decides, unless_holds}
use Rattle.system.specs.System.{system_refusal}
use Rattle.scheme.specs.declared.Scheme.{Scheme}
use Rattle.comparable.specs.Comparable.{comparable_refusal}
use Rattle.auditing.specs.declared.Finding.{Finding}
use Rattle.auditing.specs.declared.Audited.{Audited}
use Rattle.auditing.specs.Outcome.{Outcome, answer_of}
use Rattle.auditing.specs.Audit.{audit_of}
use Rattle.auditing.proofs.Outcomes.{audit_refused}
use Rattle.finding_layout.specs.FindingLayout.{finding_bytes}
use Rattle.capi.specs.Layouts.{audit_number, audit_refusal}

-- another length: the system's refusal, else 2, whatever the audit finds
pub other_length : (system : List ℕ) (f : Finding) (room r : ℕ) → r ≡ (system_refusal system or_else 2) → (room ≡ 752 → ⊥) → r ≡ audit_refusal system f room
unfolding audit_refusal unless ◌or_else◌
other_length system f room r is other = is ∙ simp (ne_eqb room 752 other)

pub refused_length : (system : List ℕ) (r : ℕ) → r ≡ (system_refusal system or_else 2) → r ≡ 0 → ⊥
refused_length system r is none = let two = later_zero (system_refusal system) 2 (sym is ∙ none) in omega (arith, two)

-- the audit's own answer has the system's refusals first
own_first : (scheme : Scheme) (system a b c d : List ℕ) (room : ℕ) → room ≡ 752 →
    let own = (answer_of (audit_of scheme system a b c d)).finding in
    audit_number own ≡ audit_refusal system own room
unfolding audit_refusal audit_number answer_of comparable_refusal
own_first scheme system a b c d room fits = go (system_refusal system) refl
  where
    own : Finding
    own = (answer_of (audit_of scheme system a b c d)).finding

    go : (number : ℕ) → system_refusal system ≡ number → audit_number own ≡ audit_refusal system own room
    go zero none = sym (later_decides (system_refusal system) _ none ∙ later_decides _ _ (unless_holds (eqb room 752) 2 (eq-eqb room 752 fits)))
    go (suc number) some =
        let refuses : system_refusal system ≡ 0 → ⊥ = λ none. omega (arith, some, none) in
        let refused = audit_refused scheme system a b c d (system_refusal system) (sym (first_decides (system_refusal system) _ refuses)) refuses in
        ap (λ (o : Outcome). audit_number (answer_of o).finding) (sym refused) ∙ omega arith ∙ sym (first_decides (system_refusal system) _ refuses)

-- 752 bytes: it is the answer, and the finding is laid out
pub own_answer : (scheme : Scheme) (system a b c d old out : List ℕ) (audited : Audited) (room r : ℕ) → audited ≡ answer_of (audit_of scheme system a b c d) →
    room ≡ 752 → r ≡ audit_number audited.finding → out ≡ kept r old (finding_bytes audited) →
    let own = answer_of (audit_of scheme system a b c d) in
    (r ≡ audit_refusal system own.finding room) × (out ≡ kept r old (finding_bytes own))
own_answer scheme system a b c d old out audited room r is fits number bytes = (
  number ∙ ap (λ (x : Audited). audit_number x.finding) is ∙ own_first scheme system a b c d room fits,
  bytes ∙ ap (λ (x : Audited). kept r old (finding_bytes x)) is,
)
