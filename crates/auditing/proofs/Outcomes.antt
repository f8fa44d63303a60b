-- The outcome of an audit by its cases. Assumes nothing.
use Prim.Native.Nat.{ℕ, ◌-◌}
use mathlib.Core.Path.{◌≡◌, refl, sym, ◌∙◌}
use mathlib.Core.List.{List}
use borrow.Author.Tests.{ne_eqb}
use Rattle.scheme.specs.declared.Scheme.{Scheme}
use Rattle.scheme.specs.declared.Scheme.TheVariants.{ThreePass}
use Rattle.comparable.specs.declared.Rejection.{Rejection}
use Rattle.comparable.specs.Comparable.{of_fourth, comparable_refusal, later_rejection, rejection_of}
use Rattle.full_set.specs.FullSet.{full_set, first_full}
use Rattle.clash.specs.Clash.{left_record, right_record, left_string, right_string, same_pair, first_clash}
use Rattle.auditing.specs.Outcome.{refused}
use Rattle.auditing.specs.Audit.{clash_at, secret_at, finding_at, search_of, audit_of}

module _ (scheme : Scheme) (system a b c d : List ℕ) where
  pub finding_secret : (r k : ℕ) → k ≡ first_clash scheme system a b c d r → k ≡ 0 → secret_at scheme system a b c r ≡ finding_at scheme system a b c d r
  unfolding finding_at
  finding_secret r k is zeroed = simp (sym is ∙ zeroed)

  pub finding_clash : (r k : ℕ) → k ≡ first_clash scheme system a b c d r → (k ≡ 0 → ⊥) →
      clash_at scheme system a b c d r (k - 1) ≡ finding_at scheme system a b c d r
  unfolding finding_at
  finding_clash r k is some = simp (sym is, ne_eqb k 0 some)

  pub search_none : (round : ℕ) → round ≡ first_full scheme a b c d → round ≡ 0 → refused 9 0 0 ≡ search_of scheme system a b c d
  unfolding search_of
  search_none round is zeroed = simp (sym is ∙ zeroed)

  pub search_found : (round : ℕ) → round ≡ first_full scheme a b c d → (round ≡ 0 → ⊥) →
      finding_at scheme system a b c d (round - 1) ≡ search_of scheme system a b c d
  unfolding search_of
  search_found round is some = simp (sym is, ne_eqb round 0 some)

  pub audit_refused : (number : ℕ) → number ≡ comparable_refusal scheme system a b c d → (number ≡ 0 → ⊥) → refused number 0 0 ≡ audit_of scheme system a b c d
  unfolding audit_of
  audit_refused number is some = simp (sym is, ne_eqb number 0 some)

  pub audit_rejected : (number : ℕ) (first : Rejection) → number ≡ comparable_refusal scheme system a b c d → number ≡ 0 → first ≡ rejection_of scheme system a b c d →
      (first.whose ≡ 0 → ⊥) → refused 8 first.whose first.round ≡ audit_of scheme system a b c d
  unfolding audit_of
  audit_rejected number first is zeroed rejected some = simp (sym is ∙ zeroed, sym rejected, ne_eqb first.whose 0 some)

  pub audit_searched : (number : ℕ) (first : Rejection) → number ≡ comparable_refusal scheme system a b c d → number ≡ 0 → first ≡ rejection_of scheme system a b c d →
      first.whose ≡ 0 → search_of scheme system a b c d ≡ audit_of scheme system a b c d
  unfolding audit_of
  audit_searched number first is zeroed rejected none_rejected = simp (sym is ∙ zeroed, sym rejected, none_rejected)

-- three passes have no fourth record: what stands in its place is not looked at
pub no_fourth : (system a b c d e : List ℕ) → audit_of ThreePass system a b c d ≡ audit_of ThreePass system a b c e
unfolding audit_of comparable_refusal of_fourth rejection_of later_rejection search_of first_full full_set finding_at first_clash clash_at same_pair left_string right_string left_record right_record
no_fourth system a b c d e = refl
