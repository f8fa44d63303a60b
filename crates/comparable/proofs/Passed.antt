-- Nothing is refused before the rounds are judged: what that tells, and where it holds. Assumes nothing.
use Prim.Native.Nat.{ℕ}
use mathlib.Core.Path.{◌≡◌}
use mathlib.Core.List.{List}
use Rattle.refusal.proofs.Refusals.{first_zero, later_zero, both_zero}
use Rattle.scheme.specs.declared.Scheme.{Scheme}
use Rattle.system.specs.System.{system_refusal}
use Rattle.transcript.specs.Transcript.{fit_refusal}
use Rattle.comparable.specs.Comparable.{audited_refusal, difference_refusal, of_fourth, comparable_refusal}

pub record Passed (scheme : Scheme) (system a b c d : List ℕ) : Type 0 where
  pub good : system_refusal system ≡ 0
  pub read_a : audited_refusal scheme a ≡ 0
  pub read_b : audited_refusal scheme b ≡ 0
  pub read_c : audited_refusal scheme c ≡ 0
  pub read_d : of_fourth scheme (audited_refusal scheme d) ≡ 0
  pub fit : fit_refusal system a ≡ 0
  pub same_b : difference_refusal a b ≡ 0
  pub same_c : difference_refusal a c ≡ 0
  pub same_d : of_fourth scheme (difference_refusal a d) ≡ 0

module _ (scheme : Scheme) (system a b c d : List ℕ) where
  pub passed : comparable_refusal scheme system a b c d ≡ 0 → Passed scheme system a b c d
  unfolding comparable_refusal
  passed e =
      let of_a = later_zero _ _ e in
      let of_b = later_zero _ _ of_a in
      let of_c = later_zero _ _ of_b in
      let of_d = later_zero _ _ of_c in
      let of_fit = later_zero _ _ of_d in
      let of_same = later_zero _ _ of_fit in
      let of_last = later_zero _ _ of_same in
      record {
        good = first_zero _ _ e;
        read_a = first_zero _ _ of_a;
        read_b = first_zero _ _ of_b;
        read_c = first_zero _ _ of_c;
        read_d = first_zero _ _ of_d;
        fit = first_zero _ _ of_fit;
        same_b = first_zero _ _ of_same;
        same_c = first_zero _ _ of_last;
        same_d = later_zero _ _ of_last;
      }

  pub none_refused : Passed scheme system a b c d → comparable_refusal scheme system a b c d ≡ 0
  unfolding comparable_refusal
  none_refused k =
      both_zero _ _ k.good (both_zero _ _ k.read_a (both_zero _ _ k.read_b (both_zero _ _ k.read_c (both_zero _ _ k.read_d
      (both_zero _ _ k.fit (both_zero _ _ k.same_b (both_zero _ _ k.same_c k.same_d)))))))
