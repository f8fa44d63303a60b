-- What a call of the card that is not refused tells of its arguments, and that such a call is not refused. Assumes nothing.
use Prim.Native.Nat.{ℕ, ◌+◌, ◌≤◌, ◌<◌}
use mathlib.Core.Path.{◌≡◌, sym}
use mathlib.Core.Bool.{true}
use mathlib.Core.List.{List}
use native.Mathlib.Omega.{arith}
use lib.ListN.{length, take}
use borrow.Author.Tests.{eq-eqb, lt-ltb, ltb-true}
use Rattle.slices.specs.Slices.{same}
use Rattle.slices.proofs.Sameness.{same_true, same_by}
use Rattle.refusal.proofs.Refusals.{first_zero, later_zero, test_holds, equal_holds, both_zero, unless_holds}
use Rattle.field.specs.Vector.{as_vector, all_below}
use Rattle.system.specs.System.{q_of, n_of, m_of, are_sizes, has_sizes, system_refusal, system_against, F}
use Rattle.system.proofs.SystemLayout.{accepted, has_sizes_lem}
use Rattle.scheme.specs.Scheme.{is_scheme, is_rounds, challenges, drawn_length, commitments_length, lent_length, reply_length}
use Rattle.session_state.proofs.States.{state_due, due_state}
use Rattle.card_state.specs.declared.session.Card.{Card}
use Rattle.card_state.specs.Card.{phase_number, open_form, open_refusal, commit_refusal, alpha_refusal, reply_refusal}

-- ---- open

pub record OpenTaken (b : List ℕ) (scheme rounds : ℕ) (v s : List ℕ) : Type 0 where
  pub good : system_refusal b ≡ 0
  pub scheme_value : is_scheme scheme ≡ true
  pub rounds_value : is_rounds rounds ≡ true
  pub key_length : length v ≡ m_of b
  pub secret_length : length s ≡ n_of b
  pub key_elements : all_below (q_of b) v ≡ true
  pub secret_elements : all_below (q_of b) s ≡ true
  pub key : F b (as_vector s) ≡ as_vector v

pub open_taken : (b : List ℕ) (scheme rounds : ℕ) (v s : List ℕ) → open_refusal b scheme rounds v s ≡ 0 → OpenTaken b scheme rounds v s
unfolding open_refusal open_form
open_taken b scheme rounds v s none =
    let form = first_zero _ _ none in
    let after_system = later_zero _ _ form in
    let after_scheme = later_zero _ _ after_system in
    let after_rounds = later_zero _ _ after_scheme in
    let after_key = later_zero _ _ after_rounds in
    let after_secret = later_zero _ _ after_key in
    record {
      good = first_zero _ _ form;
      scheme_value = test_holds (is_scheme scheme) 1 tt (first_zero _ _ after_system);
      rounds_value = test_holds (is_rounds rounds) 1 tt (first_zero _ _ after_scheme);
      key_length = equal_holds (length v) (m_of b) 2 tt (first_zero _ _ after_rounds);
      secret_length = equal_holds (length s) (n_of b) 2 tt (first_zero _ _ after_key);
      key_elements = test_holds (all_below (q_of b) v) 3 tt (first_zero _ _ after_secret);
      secret_elements = test_holds (all_below (q_of b) s) 3 tt (later_zero _ _ after_secret);
      key = same_true _ _ (test_holds (same (F b (as_vector s)) (as_vector v)) 5 tt (later_zero _ _ none));
    }

-- "An opening to which no numbered refusal applies isn't refused."
pub open_due : (b : List ℕ) (scheme rounds : ℕ) (v s : List ℕ) → OpenTaken b scheme rounds v s → open_refusal b scheme rounds v s ≡ 0
unfolding open_refusal open_form
open_due b scheme rounds v s k =
    both_zero _ _
    (both_zero _ _ k.good
    (both_zero _ _ (unless_holds _ 1 k.scheme_value)
    (both_zero _ _ (unless_holds _ 1 k.rounds_value)
    (both_zero _ _ (unless_holds _ 2 (eq-eqb (length v) (m_of b) k.key_length))
    (both_zero _ _ (unless_holds _ 2 (eq-eqb (length s) (n_of b) k.secret_length)) (both_zero _ _ (unless_holds _ 3 k.key_elements) (unless_holds _ 3 k.secret_elements)))))))
    (unless_holds _ 5 (same_by (F b (as_vector s)) (as_vector v) k.key))

-- ---- commit

pub record CommitTaken (card : Card) (b lent : List ℕ) (out : ℕ) : Type 0 where
  pub due : phase_number card.phase ≡ 1
  pub good : system_refusal b ≡ 0
  pub fits : has_sizes b card.q card.n card.m ≡ true
  pub lent_length_is : length lent ≡ lent_length card.scheme card.n card.m
  pub room : out ≡ commitments_length card.scheme
  pub elements : all_below card.q (take (drawn_length card.scheme card.n card.m) lent) ≡ true

pub commit_taken : (card : Card) (b lent : List ℕ) (out : ℕ) → commit_refusal card b lent out ≡ 0 → CommitTaken card b lent out
unfolding commit_refusal system_against
commit_taken card b lent out none =
    let after_state = later_zero _ _ none in
    let system = first_zero _ _ after_state in
    let after_sizes = later_zero _ _ after_state in
    let after_lent = later_zero _ _ after_sizes in
    record {
      due = state_due (phase_number card.phase) 1 (first_zero _ _ none);
      good = first_zero _ _ system;
      fits = test_holds (has_sizes b card.q card.n card.m) 7 tt (later_zero _ _ system);
      lent_length_is = equal_holds (length lent) (lent_length card.scheme card.n card.m) 2 tt (first_zero _ _ after_sizes);
      room = equal_holds out (commitments_length card.scheme) 2 tt (first_zero _ _ after_lent);
      elements = test_holds (all_below card.q (take (drawn_length card.scheme card.n card.m) lent)) 3 tt (later_zero _ _ after_lent);
    }

pub commit_due : (card : Card) (b lent : List ℕ) (out : ℕ) → CommitTaken card b lent out → commit_refusal card b lent out ≡ 0
unfolding commit_refusal system_against
commit_due card b lent out k =
    both_zero _ _ (due_state (phase_number card.phase) 1 k.due (λ e. absurd (omega arith)))
    (both_zero _ _ (both_zero _ _ k.good (unless_holds _ 7 k.fits))
    (both_zero _ _ (unless_holds _ 2 (eq-eqb (length lent) (lent_length card.scheme card.n card.m) k.lent_length_is))
    (both_zero _ _ (unless_holds _ 2 (eq-eqb out (commitments_length card.scheme) k.room)) (unless_holds _ 3 k.elements))))

-- ---- reply to α

pub record AlphaTaken (card : Card) (b : List ℕ) (α out : ℕ) : Type 0 where
  pub due : phase_number card.phase ≡ 2
  pub good : system_refusal b ≡ 0
  pub fits : has_sizes b card.q card.n card.m ≡ true
  pub room : out ≡ card.n + card.m
  pub element : α < card.q

pub alpha_taken : (card : Card) (b : List ℕ) (α out : ℕ) → alpha_refusal card b α out ≡ 0 → AlphaTaken card b α out
unfolding alpha_refusal system_against
alpha_taken card b α out none =
    let after_state = later_zero _ _ none in
    let system = first_zero _ _ after_state in
    let after_sizes = later_zero _ _ after_state in
    record {
      due = state_due (phase_number card.phase) 2 (first_zero _ _ none);
      good = first_zero _ _ system;
      fits = test_holds (has_sizes b card.q card.n card.m) 7 tt (later_zero _ _ system);
      room = equal_holds out (card.n + card.m) 2 tt (first_zero _ _ after_sizes);
      element = ltb-true α card.q (test_holds _ 3 tt (later_zero _ _ after_sizes));
    }

pub alpha_due : (card : Card) (b : List ℕ) (α out : ℕ) → AlphaTaken card b α out → alpha_refusal card b α out ≡ 0
unfolding alpha_refusal system_against
alpha_due card b α out k =
    both_zero _ _ (due_state (phase_number card.phase) 2 k.due (λ e. absurd (omega arith)))
    (both_zero _ _ (both_zero _ _ k.good (unless_holds _ 7 k.fits))
    (both_zero _ _ (unless_holds _ 2 (eq-eqb out (card.n + card.m) k.room)) (unless_holds _ 3 (lt-ltb α card.q k.element))))

-- ---- reply

pub record ReplyTaken (card : Card) (challenge out : ℕ) : Type 0 where
  pub due : phase_number card.phase ≡ 3
  pub sizes : are_sizes card.q card.n card.m ≡ true
  pub room : out ≡ reply_length card.scheme card.n card.m
  pub value : challenge < challenges card.scheme

pub reply_taken_lem : (card : Card) (challenge out : ℕ) → reply_refusal card challenge out ≡ 0 → ReplyTaken card challenge out
unfolding reply_refusal
reply_taken_lem card challenge out none =
    let after_state = later_zero _ _ none in
    let after_sizes = later_zero _ _ after_state in
    record {
      due = state_due (phase_number card.phase) 3 (first_zero _ _ none);
      sizes = test_holds (are_sizes card.q card.n card.m) 1 tt (first_zero _ _ after_state);
      room = equal_holds out (reply_length card.scheme card.n card.m) 2 tt (first_zero _ _ after_sizes);
      value = ltb-true challenge (challenges card.scheme) (test_holds _ 4 tt (later_zero _ _ after_sizes));
    }

pub reply_due : (card : Card) (challenge out : ℕ) → ReplyTaken card challenge out → reply_refusal card challenge out ≡ 0
unfolding reply_refusal
reply_due card challenge out k =
    both_zero _ _ (due_state (phase_number card.phase) 3 k.due (λ e. absurd (omega arith)))
    (both_zero _ _ (unless_holds _ 1 k.sizes)
    (both_zero _ _ (unless_holds _ 2 (eq-eqb out (reply_length card.scheme card.n card.m) k.room))
    (unless_holds _ 4 (lt-ltb challenge (challenges card.scheme) k.value))))

-- the room for t1 and e1
pub alpha_room : (card : Card) (b : List ℕ) (α out : ℕ) → 0 ≡ alpha_refusal card b α out → (n_of b ≤ 96) × (m_of b ≤ 96) × (out ≡ n_of b + m_of b)
alpha_room card b α out none =
    let k = alpha_taken card b α out (sym none) in
    let good = accepted b k.good in
    let fits = has_sizes_lem _ _ _ _ k.fits in
    (good.n_high, good.m_high, simp (fits.1, fits.2) k.room)
