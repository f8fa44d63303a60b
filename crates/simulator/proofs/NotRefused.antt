-- What a call of the simulator tells of its arguments where it refuses nothing. Assumes nothing.
use Prim.Native.Nat.{ℕ, ◌+◌, ◌≤◌}
use mathlib.Core.Path.{◌≡◌, sym}
use mathlib.Core.Bool.{true, not}
use mathlib.Core.List.{List}
use lib.Dec.{leb, eqb}
use lib.ListN.{length, take}
use borrow.Author.Tests.{leb-true, eqb-false, not-true}
use Rattle.refusal.proofs.Refusals.{first_zero, later_zero, test_holds, equal_holds, or_else_assoc}
use Rattle.refusal.proofs.Answers.{refusal_decides, none_decides, refused_kept, none_kept}
use Rattle.field.specs.Vector.{all_below}
use Rattle.system.specs.System.{q_of, n_of, m_of, system_refusal}
use Rattle.scheme.specs.declared.Scheme.TheVariants.{ThreePass}
use Rattle.scheme.specs.Scheme.{drawn_length, commitments_length, reply_length}
use Rattle.simulator.specs.Simulator.{simulate_refusal}

pub record Taken (b v : List ℕ) (unanswered challenge : ℕ) (lent : List ℕ) (commitments reply : ℕ) : Type 0 where
  pub good : system_refusal b ≡ 0
  pub key_length : length v ≡ m_of b
  pub commitments_room : commitments ≡ commitments_length ThreePass
  pub reply_room : reply ≡ reply_length ThreePass (n_of b) (m_of b)
  pub key_elements : all_below (q_of b) v ≡ true
  pub lent_elements : all_below (q_of b) (take (n_of b + drawn_length ThreePass (n_of b) (m_of b)) lent) ≡ true
  pub unanswered_value : unanswered ≤ 2
  pub challenge_value : challenge ≤ 2
  pub other : challenge ≡ unanswered → ⊥

pub taken : (b v : List ℕ) (unanswered challenge : ℕ) (lent : List ℕ) (commitments reply : ℕ) → simulate_refusal b v unanswered challenge lent commitments reply ≡ 0 →
    Taken b v unanswered challenge lent commitments reply
unfolding simulate_refusal
taken b v unanswered challenge lent commitments reply none =
    let n = n_of b in
    let m = m_of b in
    let after_system = later_zero _ _ none in
    let lengths = first_zero _ _ after_system in
    let after_lengths = later_zero _ _ after_system in
    let elements = first_zero _ _ after_lengths in
    let challenges = later_zero _ _ after_lengths in
    let after_unanswered = later_zero _ _ challenges in
    record {
      good = first_zero _ _ none;
      key_length = equal_holds (length v) m 2 tt (first_zero _ _ (first_zero _ _ lengths));
      commitments_room = equal_holds commitments (commitments_length ThreePass) 2 tt (first_zero _ _ (later_zero _ _ lengths));
      reply_room = equal_holds reply (reply_length ThreePass n m) 2 tt (later_zero _ _ (later_zero _ _ lengths));
      key_elements = test_holds (all_below (q_of b) v) 3 tt (first_zero _ _ elements);
      lent_elements = test_holds (all_below (q_of b) (take (n + drawn_length ThreePass n m) lent)) 3 tt (later_zero _ _ elements);
      unanswered_value = leb-true unanswered 2 (test_holds (leb unanswered 2) 4 tt (first_zero _ _ challenges));
      challenge_value = leb-true challenge 2 (test_holds (leb challenge 2) 4 tt (first_zero _ _ after_unanswered));
      other = λ e. eqb-false unanswered challenge (not-true (eqb unanswered challenge) (test_holds (not (eqb unanswered challenge)) 4 tt (later_zero _ _ after_unanswered))) (sym e);
    }

-- what a chain of answers and the outputs' states need
pub ruleset answers = (or_else_assoc, refusal_decides, none_decides, refused_kept, none_kept)
