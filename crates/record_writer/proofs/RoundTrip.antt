-- What is written is read back, and what is read is what the writer makes of it. Assumes nothing.
use Prim.Native.Nat.{ℕ}
use mathlib.Core.Path.{◌≡◌, refl, sym, ap, ◌∙◌}
use mathlib.Core.Logic.{◌↔◌}
use mathlib.Core.Bool.{Bool, true, false}
use mathlib.Core.List.{List}
use native.Mathlib.Omega.{arith}
use lib.ListN.{length}
use Rattle.slices.specs.Slices.{◌!◌}
use borrow.Author.Tests.{eq-eqb, eqb-true}
use Rattle.std.specs.Prelude.{Result, Ok}
use Rattle.refusal.specs.declared.Refusal.{Refusal}
use Rattle.record_form.specs.declared.layout.Layout.{Layout}
use Rattle.refusal.specs.Refusal.{unless, ◌or_else◌}
use Rattle.refusal.proofs.Refusals.{first_zero, later_zero, test_holds, equal_holds, both_zero, unless_holds}
use Rattle.field.specs.Vector.{all_below}
use Rattle.scheme.specs.Scheme.{byte_of, scheme_of, is_scheme}
use Rattle.field.proofs.Elements.{all_below_at, at_all_below}
use Rattle.record_form.specs.declared.form.Check.TheVariants.{Elements, Challenges}
use Rattle.record_form.specs.Record.{Fields, commitments_body, exchanges_body, layout_of, record_length, head, written, Valid, fields_in}
use Rattle.record_form.specs.Form.{are_values}
use Rattle.record.specs.Reader.{record_refusal, Reading}
use Rattle.record_form.proofs.ValidForm.{values, values_true, header_values_of, valid_each, each_zero}
use Rattle.record.proofs.Readings.{reading_good}
use Rattle.record.proofs.RecordLayout.{accepted, valid_fields, fields_written, header_written, written_accepted, written_fields, whole_fields}
use Rattle.record_writer.specs.Writer.{write_refusal}

-- ---- not refused is valid

pub record Taken (scheme : ℕ) (f : Fields) (out : ℕ) : Type 0 where
  pub scheme_value : is_scheme scheme ≡ true
  pub valid : Valid f
  pub exact : out ≡ record_length f.header

-- a byte that is no scheme's is refused, whatever the rest is
no_scheme : (scheme : ℕ) (f : Fields) (out : ℕ) → is_scheme scheme ≡ false → write_refusal scheme f out ≡ 1
unfolding write_refusal unless ◌or_else◌
no_scheme scheme f out is = simp is

scheme_told : (scheme : ℕ) (f : Fields) (out : ℕ) → write_refusal scheme f out ≡ 0 → (b : Bool) → is_scheme scheme ≡ b → is_scheme scheme ≡ true
scheme_told scheme f out none true is = is
scheme_told scheme f out none false is = absurd (omega (arith, none, no_scheme scheme f out is))

pub taken : (scheme : ℕ) (f : Fields) (out : ℕ) → write_refusal scheme f out ≡ 0 → Taken scheme f out
unfolding write_refusal
taken scheme f out none =
    let h = f.header in
    let after_scheme = later_zero _ _ none in
    let after_values = later_zero _ _ after_scheme in
    let after_key = later_zero _ _ after_values in
    let after_commitments = later_zero _ _ after_key in
    let after_exchanges = later_zero _ _ after_commitments in
    let after_out = later_zero _ _ after_exchanges in
    let after_elements = later_zero _ _ after_out in
    let v = values h (test_holds (are_values h) 1 tt (first_zero _ _ after_scheme)) in
    let s = v.sizes_value in
    record {
      scheme_value = scheme_told scheme f out none (is_scheme scheme) refl;
      valid =
          record {
            q_value = s.q_is_field;
            n_value = (s.n_low, s.n_high);
            m_value = (s.m_low, s.m_high);
            rounds_value = v.rounds_value;
            key_length = equal_holds (length f.key) h.m 2 tt (first_zero _ _ after_values);
            commitments_length_is = equal_holds (length f.commitments) (commitments_body h) 2 tt (first_zero _ _ after_key);
            exchanges_length = equal_holds (length f.exchanges) (exchanges_body h) 2 tt (first_zero _ _ after_commitments);
            key_elements = all_below_at h.q f.key (test_holds (all_below h.q f.key) 3 tt (first_zero _ _ after_out));
            each_exchange = valid_each h f.exchanges (first_zero _ _ after_elements) (later_zero _ _ after_elements);
          };
      exact = equal_holds out (record_length h) 2 tt (first_zero _ _ after_exchanges);
    }

pub valid_taken : (scheme : ℕ) (f : Fields) → is_scheme scheme ≡ true → Valid f → write_refusal scheme f (record_length f.header) ≡ 0
unfolding write_refusal
valid_taken scheme f is v =
    let h = f.header in
    both_zero _ _ (unless_holds (is_scheme scheme) 1 is)
    (both_zero _ _ (unless_holds (are_values h) 1 (values_true h (header_values_of f v)))
    (both_zero _ _ (unless_holds _ 2 (eq-eqb (length f.key) h.m v.key_length))
    (both_zero _ _ (unless_holds _ 2 (eq-eqb (length f.commitments) (commitments_body h) v.commitments_length_is))
    (both_zero _ _ (unless_holds _ 2 (eq-eqb (length f.exchanges) (exchanges_body h) v.exchanges_length))
    (both_zero _ _ (unless_holds _ 2 (eq-eqb (record_length h) (record_length h) refl))
    (both_zero _ _ (unless_holds (all_below h.q f.key) 3 (at_all_below h.q f.key v.key_elements))
    (both_zero _ _ (each_zero Elements h f.exchanges v.each_exchange) (each_zero Challenges h f.exchanges v.each_exchange))))))))

-- ---- "Reading a written record gives its fields back", and the byte that was given for the scheme

pub read_written : (scheme : ℕ) (f : Fields) (out : ℕ) → write_refusal scheme f out ≡ 0 →
    ((answer : Result Layout Refusal) → Reading (written f) answer ↔ (answer ≡ Ok (layout_of f.header))) × (fields_in (written f) ≡ f) × (f.header.scheme ≡ scheme_of scheme → written f ! 1 ≡ scheme)
unfolding written head is_scheme
read_written scheme f out none =
    let t = taken scheme f out none in
    let v = t.valid in
    let none_read = written_accepted f v in (
      λ answer. (
        λ reading. reading_good (written f) answer reading none_read ∙ ap (λ h. Ok (layout_of h)) (header_written f),
        λ is. rw is (sym none_read, sym (ap layout_of (header_written f))),
      ),
      fields_written f v,
      λ is. ap byte_of is ∙ eqb-true (byte_of (scheme_of scheme)) scheme t.scheme_value,
    )

-- ---- "every accepted record is the one the writer makes of its fields"

pub written_read : (b : List ℕ) → record_refusal b ≡ 0 → (write_refusal (b ! 1) (fields_in b) (length b) ≡ 0) × (written (fields_in b) ≡ b)
written_read b none =
    let is = (accepted b none).scheme_value in
    (ap (write_refusal (b ! 1) (fields_in b)) (whole_fields b none) ∙ valid_taken (b ! 1) (fields_in b) is (valid_fields b none), written_fields b none)
