-- What the entries over slices know where they refuse nothing, and what they then write. Assumes nothing.
use Prim.Native.Nat.{ℕ}
use mathlib.Core.Path.{◌≡◌, sym, ap, ap₂, ◌∙◌}
use mathlib.Core.List.{List}
use lib.ListN.{length, take}
use Rattle.slices.specs.Slices.{◌!◌}
use Rattle.refusal.specs.Refusal.{kept}
use Rattle.refusal.proofs.Refusals.{first_zero, later_zero, equal_holds}
use Rattle.refusal.proofs.Refusals.{or_else_assoc}
use Rattle.refusal.proofs.Answers.{refusal_decides, none_decides, refused_kept, none_kept}
use Rattle.field.specs.Vector.{vector}
use Rattle.system.specs.System.{n_of, m_of, system_refusal, F, G}
use Rattle.evaluation.specs.Entry.{evaluate_refusal, polar_refusal}
use Rattle.polynomials.proofs.Laws.{F_held, G_held}
use Rattle.system.proofs.SystemLayout.{accepted}

-- ---- evaluate

module _ (b x : List ℕ) (out : ℕ) (h : evaluate_refusal b x out ≡ 0) where
  pub evaluate_system : system_refusal b ≡ 0
  unfolding evaluate_refusal
  evaluate_system = first_zero _ _ h

  pub evaluate_x : length x ≡ n_of b
  unfolding evaluate_refusal
  evaluate_x = equal_holds (length x) (n_of b) 2 tt (first_zero _ _ (first_zero _ _ (later_zero _ _ h)))

  pub evaluate_out : out ≡ m_of b
  unfolding evaluate_refusal
  evaluate_out = equal_holds out (m_of b) 2 tt (later_zero _ _ (first_zero _ _ (later_zero _ _ h)))

-- ---- polar

module _ (b x y : List ℕ) (out : ℕ) (h : polar_refusal b x y out ≡ 0) where
  pub polar_system : system_refusal b ≡ 0
  unfolding polar_refusal
  polar_system = first_zero _ _ h

  pub polar_x : length x ≡ n_of b
  unfolding polar_refusal
  polar_x = equal_holds (length x) (n_of b) 2 tt (first_zero _ _ (first_zero _ _ (later_zero _ _ h)))

  pub polar_y : length y ≡ n_of b
  unfolding polar_refusal
  polar_y = equal_holds (length y) (n_of b) 2 tt (first_zero _ _ (later_zero _ _ (first_zero _ _ (later_zero _ _ h))))

  pub polar_out : out ≡ m_of b
  unfolding polar_refusal
  polar_out = equal_holds out (m_of b) 2 tt (later_zero _ _ (later_zero _ _ (first_zero _ _ (later_zero _ _ h))))

-- ---- what is written

-- an argument of n bytes, as the vector that it is taken for
module _ (b x : List ℕ) (good : system_refusal b ≡ 0) (long : length x ≡ n_of b) where
  pub F_taken : F b (vector (length x) (λ i. x ! i)) ≡ F b x
  F_taken = ap (λ (n : ℕ). F b (vector n (λ i. x ! i))) long ∙ F_held b (accepted b good).n_high x

  pub G_taken : (y : List ℕ) → length y ≡ n_of b → G b (vector (length x) (λ i. x ! i)) (vector (length y) (λ i. y ! i)) ≡ G b x y
  G_taken y other = ap₂ (λ (n m : ℕ). G b (vector n (λ i. x ! i)) (vector m (λ i. y ! i))) long other ∙ G_held b (accepted b good).n_high x y

-- the first m elements of the value are copied out
pub written : (value : List ℕ → List ℕ) (b system result out l : List ℕ) → system ≡ b → length out ≡ m_of system → result ≡ value system →
    l ≡ take (length out) result → l ≡ kept 0 out (take (m_of b) (value b))
written value b system result out l same long is copied =
    copied ∙ ap₂ take (long ∙ ap m_of same) (is ∙ ap value same) ∙ sym (none_kept out _)

-- what a chain of answers and the output's state need
pub ruleset answers = (or_else_assoc, refusal_decides, none_decides, refused_kept, none_kept)
