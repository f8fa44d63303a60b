-- What is refused before the rounds are judged, against the records: nothing exactly where they are to be audited. Assumes nothing.
use Prim.Native.Nat.{ℕ}
use mathlib.Core.Path.{◌≡◌, sym, ap, ◌∙◌}
use mathlib.Core.List.{List}
use native.Mathlib.Omega.{arith}
use lib.ListN.{take}
use lib.Seq.{get_or-take}
use borrow.Author.Tests.{eq-eqb}
use Rattle.slices.specs.Slices.{same}
use Rattle.slices.proofs.Sameness.{same_true, same_by, same_refl}
use Rattle.refusal.proofs.Refusals.{first_zero, later_zero, test_holds, equal_holds, both_zero, unless_holds}
use Rattle.scheme.specs.declared.Scheme.{Scheme}
use Rattle.scheme.specs.Scheme.{byte_of, scheme_of}
use Rattle.scheme.proofs.Bytes.{byte_determines}
use Rattle.system.specs.System.{has_sizes}
use Rattle.system.proofs.SystemLayout.{has_sizes_lem, sizes_has}
use Rattle.record_form.specs.declared.layout.Header.{Header}
use Rattle.record_form.specs.Record.{head, written, WellFormedRecord, header_in, fields_in}
use Rattle.record.proofs.RecordLayout.{well_formed, not_refused, header_written}
use Rattle.transcript.specs.Transcript.{fit_refusal}
use Rattle.comparable.specs.Comparable.{audited_refusal, difference_refusal}
use Rattle.findings.specs.Findings.{Auditable}

-- ---- the six bytes before the table are the header

header_first : (b : List ℕ) → header_in (take 6 b) ≡ header_in b
unfolding header_in
header_first b =
    λ i. record {
      scheme = scheme_of (get_or-take 6 b 1 0 (omega arith) i);
      q = get_or-take 6 b 2 0 (omega arith) i;
      n = get_or-take 6 b 3 0 (omega arith) i;
      m = get_or-take 6 b 4 0 (omega arith) i;
      rounds = get_or-take 6 b 5 0 (omega arith) i;
    }

same_headers : (a b : List ℕ) → take 6 a ≡ take 6 b → header_in a ≡ header_in b
same_headers a b e = sym (header_first a) ∙ ap header_in e ∙ header_first b

first_header : (b : List ℕ) → WellFormedRecord b → take 6 b ≡ head (header_in b)
unfolding written head
first_header b w = ap (take 6) w.laid_out ∙ ap head (sym (header_written w.fields) ∙ ap header_in (sym w.laid_out))

-- ---- both ways

module _ (scheme : Scheme) (system a b : List ℕ) where
  pub auditable : audited_refusal scheme b ≡ 0 → fit_refusal system a ≡ 0 → difference_refusal a b ≡ 0 → Auditable scheme system a b
  unfolding audited_refusal fit_refusal difference_refusal
  auditable read fit alike =
      let header = same_headers a b (same_true _ _ (test_holds (same (take 6 a) (take 6 b)) 7 tt (first_zero _ _ alike))) in
      let sizes = has_sizes_lem system _ _ _ (test_holds (has_sizes system (header_in a).q (header_in a).n (header_in a).m) 7 tt fit) in
      let bodies = later_zero _ _ alike in
      record {
        well_formed = well_formed b (first_zero _ _ read);
        for_scheme = byte_determines _ _ (equal_holds (byte_of (header_in b).scheme) (byte_of scheme) 1 tt (later_zero _ _ read));
        has_q = sizes.0 ∙ ap (λ (h : Header). h.q) header;
        has_n = sizes.1 ∙ ap (λ (h : Header). h.n) header;
        has_m = sizes.2 ∙ ap (λ (h : Header). h.m) header;
        same_header = header;
        same_key = same_true _ _ (test_holds (same (fields_in a).key (fields_in b).key) 7 tt (first_zero _ _ bodies));
        same_commitments = same_true _ _ (test_holds (same (fields_in a).commitments (fields_in b).commitments) 7 tt (later_zero _ _ bodies));
      }

  pub readable : Auditable scheme system a b → audited_refusal scheme b ≡ 0
  unfolding audited_refusal
  readable k = both_zero _ _ (not_refused b k.well_formed) (unless_holds _ 1 (eq-eqb _ _ (ap byte_of k.for_scheme)))

  pub alike : Auditable scheme system a a → Auditable scheme system a b → difference_refusal a b ≡ 0
  unfolding difference_refusal
  alike first k =
      let headers = first_header a first.well_formed ∙ ap head k.same_header ∙ sym (first_header b k.well_formed) in
      both_zero _ _ (unless_holds _ 7 (same_by _ _ headers))
      (both_zero _ _ (unless_holds _ 7 (same_by _ _ k.same_key)) (unless_holds _ 7 (same_by _ _ k.same_commitments)))

pub fitting : (scheme : Scheme) (system a : List ℕ) → Auditable scheme system a a → fit_refusal system a ≡ 0
unfolding fit_refusal
fitting scheme system a k = unless_holds _ 7 (sizes_has system _ _ _ k.has_q k.has_n k.has_m)

pub alike_itself : (a : List ℕ) → difference_refusal a a ≡ 0
unfolding difference_refusal
alike_itself a =
    both_zero _ _ (unless_holds _ 7 (same_refl (take 6 a)))
    (both_zero _ _ (unless_holds _ 7 (same_refl (fields_in a).key)) (unless_holds _ 7 (same_refl (fields_in a).commitments)))
