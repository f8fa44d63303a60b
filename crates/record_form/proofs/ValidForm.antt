-- The checks of a record's form hold exactly where each value is among its values. Assumes nothing.
use Prim.Native.Nat.{ℕ, ◌≤◌, ◌<◌}
use mathlib.Core.Path.{◌≡◌}
use mathlib.Core.Bool.{true}
use mathlib.Core.List.{List}
use lib.Dec.{leb}
use borrow.Author.Tests.{leb-true, ltb-true, le-leb, lt-ltb}
use Rattle.slices.proofs.Booleans.{and_left, and_right}
use Rattle.refusal.proofs.Refusals.{first_zero, later_zero, test_holds, both_zero, unless_holds, first_of_each, first_of_none}
use Rattle.field.specs.Vector.{all_below}
use Rattle.system.specs.System.{are_sizes}
use Rattle.field.proofs.Elements.{all_below_at, at_all_below}
use Rattle.system.proofs.SystemLayout.{Sizes, sizes, sizes_true}
use Rattle.scheme.specs.Scheme.{is_rounds, challenges}
use Rattle.record_form.specs.declared.layout.Header.{Header}
use Rattle.record_form.specs.declared.form.Check.{Check}
use Rattle.record_form.specs.declared.form.Check.TheVariants.{FileOrder, Elements, Challenges}
use Rattle.record_form.specs.Record.{Fields, exchange_of, turn_of, challenge_of, reply_vectors, ValidExchange, Valid}
use Rattle.record_form.specs.Form.{are_values, exchange_refusal, exchanges_refusal}

-- ---- the header

pub record Values (h : Header) : Type 0 where
  pub sizes_value : Sizes h.q h.n h.m
  pub rounds_value : (1 ≤ h.rounds) × (h.rounds ≤ 255)

pub values : (h : Header) → are_values h ≡ true → Values h
unfolding are_values is_rounds
values h e =
    let rounds = and_right (are_sizes h.q h.n h.m) (is_rounds h.rounds) e in
    record {
      sizes_value = sizes h.q h.n h.m (and_left (are_sizes h.q h.n h.m) (is_rounds h.rounds) e);
      rounds_value = (
        leb-true 1 h.rounds (and_left (leb 1 h.rounds) (leb h.rounds 255) rounds),
        leb-true h.rounds 255 (and_right (leb 1 h.rounds) (leb h.rounds 255) rounds),
      );
    }

pub values_true : (h : Header) → Values h → are_values h ≡ true
unfolding are_values is_rounds
values_true h v =
    let s = v.sizes_value in
    simp (
      sizes_true h.q h.n h.m s.q_is_field (s.n_low, s.n_high) (s.m_low, s.m_high),
      le-leb 1 h.rounds v.rounds_value.0,
      le-leb h.rounds 255 v.rounds_value.1,
    )

-- those of valid fields are
pub header_values_of : (f : Fields) → Valid f → Values f.header
header_values_of f v =
    record {
      sizes_value = record { q_is_field = v.q_value; n_low = v.n_value.0; n_high = v.n_value.1; m_low = v.m_value.0; m_high = v.m_value.1 };
      rounds_value = v.rounds_value;
    }

-- ---- an exchange

pub valid_parts : (h : Header) (x : List ℕ) → exchange_refusal Elements h x ≡ 0 → exchange_refusal Challenges h x ≡ 0 → ValidExchange h x
unfolding exchange_refusal
valid_parts h x e c =
    record {
      turn_elements = all_below_at h.q (turn_of h x) (test_holds (all_below h.q (turn_of h x)) 3 tt (first_zero _ _ e));
      challenge_value = ltb-true (challenge_of h x) (challenges h.scheme) (test_holds _ 4 tt c);
      reply_elements = all_below_at h.q (reply_vectors h x) (test_holds (all_below h.q (reply_vectors h x)) 3 tt (later_zero _ _ e));
    }

-- the first bad byte in file order: none is bad
pub file_order_parts : (h : Header) (x : List ℕ) → exchange_refusal FileOrder h x ≡ 0 → (exchange_refusal Elements h x ≡ 0) × (exchange_refusal Challenges h x ≡ 0)
unfolding exchange_refusal
file_order_parts h x e = (both_zero _ _ (first_zero _ _ e) (later_zero _ _ (later_zero _ _ e)), first_zero _ _ (later_zero _ _ e))

pub valid_zero : (check : Check) (h : Header) (x : List ℕ) → ValidExchange h x → exchange_refusal check h x ≡ 0
unfolding exchange_refusal
valid_zero FileOrder h x v =
    both_zero _ _ (unless_holds _ 3 (at_all_below _ _ v.turn_elements))
    (both_zero _ _ (unless_holds _ 4 (lt-ltb _ _ v.challenge_value)) (unless_holds _ 3 (at_all_below _ _ v.reply_elements)))
valid_zero Elements h x v = both_zero _ _ (unless_holds _ 3 (at_all_below _ _ v.turn_elements)) (unless_holds _ 3 (at_all_below _ _ v.reply_elements))
valid_zero Challenges h x v = unless_holds _ 4 (lt-ltb _ _ v.challenge_value)

-- ---- the exchanges of all rounds

pub valid_each : (h : Header) (l : List ℕ) → exchanges_refusal Elements h l ≡ 0 → exchanges_refusal Challenges h l ≡ 0 →
    (r : ℕ) → r < h.rounds → ValidExchange h (exchange_of h l r)
unfolding exchanges_refusal
valid_each h l e c r below = valid_parts h (exchange_of h l r) (first_of_each h.rounds _ e r below) (first_of_each h.rounds _ c r below)

pub valid_in_order : (h : Header) (l : List ℕ) → exchanges_refusal FileOrder h l ≡ 0 → (r : ℕ) → r < h.rounds → ValidExchange h (exchange_of h l r)
unfolding exchanges_refusal
valid_in_order h l e r below =
    let parts = file_order_parts h (exchange_of h l r) (first_of_each h.rounds _ e r below) in
    valid_parts h (exchange_of h l r) parts.0 parts.1

pub each_zero : (check : Check) (h : Header) (l : List ℕ) → ((r : ℕ) → r < h.rounds → ValidExchange h (exchange_of h l r)) → exchanges_refusal check h l ≡ 0
unfolding exchanges_refusal
each_zero check h l each = first_of_none h.rounds _ (λ r below. valid_zero check h (exchange_of h l r) (each r below))
