-- `evaluate` and `polar` refuse exactly the arguments that are not as document 01 asks. Assumes nothing.
use Prim.Native.Nat.{ℕ}
use mathlib.Core.Path.{◌≡◌, refl, sym, ◌∙◌}
use mathlib.Core.Bool.{true}
use mathlib.Core.List.{List, [], ◌∷◌}
use lib.Dec.{eqb}
use borrow.Author.Tests.{eq-eqb}
use Rattle.refusal.specs.Refusal.{unless, ◌or_else◌}
use Rattle.refusal.proofs.Refusals.{first_zero, later_zero, test_holds, both_zero, unless_holds}
use Rattle.field.specs.Ops.{is_field}
use Rattle.field.specs.Vector.{Elements, all_below}
use Rattle.field.proofs.Elements.{all_below_at, at_all_below}
use Rattle.system.specs.System.{q_of, width, system_length, is_size, are_sizes, system_refusal, WellFormedSystem}
use Rattle.system.proofs.SystemLayout.{well_formed, not_refused, q_is, n_is, m_is}
use Rattle.evaluation.specs.Arguments.{Evaluable, Polarisable}
use Rattle.evaluation.specs.Entry.{evaluate_refusal, polar_refusal}
use Rattle.evaluation.proofs.Entries.{evaluate_system, evaluate_x, evaluate_out, polar_system, polar_x, polar_y, polar_out}

-- bytes below q are elements, and elements are below q
module _ (b : List ℕ) (w : WellFormedSystem b) (l : List ℕ) where
  are_elements : all_below (q_of b) l ≡ true → Elements w.q l
  are_elements below = rw (q_is b w) at (all_below_at (q_of b) l below)

  are_below : Elements w.q l → all_below (q_of b) l ≡ true
  are_below elements = at_all_below (q_of b) l (rw (q_is b w) elements)

-- no 2 for a length that is a well-formed system's n or m
same_lengths : (a n w : ℕ) → a ≡ w → n ≡ w → unless (eqb a n) 2 ≡ 0
same_lengths a n w long is = unless_holds (eqb a n) 2 (eq-eqb a n (long ∙ sym is))

-- ---- evaluate

pub evaluate_not_refused : (b x : List ℕ) (out : ℕ) → Evaluable b x out → evaluate_refusal b x out ≡ 0
unfolding evaluate_refusal
evaluate_not_refused b x out k =
    let w = k.system in
    both_zero _ _ (not_refused b w)
    (both_zero _ _
    (both_zero _ _ (same_lengths _ _ _ k.x_length (n_is b w)) (same_lengths _ _ _ k.out_length (m_is b w)))
    (unless_holds _ 3 (are_below b w x k.x_elements)))

pub evaluable : (b x : List ℕ) (out : ℕ) → evaluate_refusal b x out ≡ 0 → Evaluable b x out
unfolding evaluate_refusal
evaluable b x out none =
    let w = well_formed b (evaluate_system b x out none) in
    record {
      system = w;
      x_length = evaluate_x b x out none ∙ n_is b w;
      x_elements = are_elements b w x (test_holds (all_below (q_of b) x) 3 tt (later_zero _ _ (later_zero _ _ none)));
      out_length = evaluate_out b x out none ∙ m_is b w;
    }

-- ---- polar

pub polar_not_refused : (b x y : List ℕ) (out : ℕ) → Polarisable b x y out → polar_refusal b x y out ≡ 0
unfolding polar_refusal
polar_not_refused b x y out k =
    let w = k.system in
    both_zero _ _ (not_refused b w)
    (both_zero _ _
    (both_zero _ _ (same_lengths _ _ _ k.x_length (n_is b w))
    (both_zero _ _ (same_lengths _ _ _ k.y_length (n_is b w)) (same_lengths _ _ _ k.out_length (m_is b w))))
    (both_zero _ _ (unless_holds _ 3 (are_below b w x k.x_elements)) (unless_holds _ 3 (are_below b w y k.y_elements))))

pub polarisable : (b x y : List ℕ) (out : ℕ) → polar_refusal b x y out ≡ 0 → Polarisable b x y out
unfolding polar_refusal
polarisable b x y out none =
    let w = well_formed b (polar_system b x y out none) in
    let elements = later_zero _ _ (later_zero _ _ none) in
    record {
      system = w;
      x_length = polar_x b x y out none ∙ n_is b w;
      x_elements = are_elements b w x (test_holds (all_below (q_of b) x) 3 tt (first_zero _ _ elements));
      y_length = polar_y b x y out none ∙ n_is b w;
      y_elements = are_elements b w y (test_holds (all_below (q_of b) y) 3 tt (later_zero _ _ elements));
      out_length = polar_out b x y out none ∙ m_is b w;
    }

-- ---- there are right calls: K12, "q = 251, f = (1,0): F(250)", and K11, "q = 2, f = (1,0): G(1,1)"

pub evaluable_k12 : Evaluable (251 ∷ 1 ∷ 1 ∷ 1 ∷ 0 ∷ []) (250 ∷ []) 1
unfolding evaluate_refusal system_refusal are_sizes is_size system_length width is_field all_below unless ◌or_else◌
evaluable_k12 = evaluable _ _ _ refl

pub polarisable_k11 : Polarisable (2 ∷ 1 ∷ 1 ∷ 1 ∷ 0 ∷ []) (1 ∷ []) (1 ∷ []) 1
unfolding polar_refusal system_refusal are_sizes is_size system_length width is_field all_below unless ◌or_else◌
polarisable_k11 = polarisable _ _ _ _ refl
