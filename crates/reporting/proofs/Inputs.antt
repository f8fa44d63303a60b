-- An input is not refused exactly where it is a system and a record to report on. Assumes nothing.
use Prim.Native.Nat.{ℕ}
use mathlib.Core.Path.{◌≡◌, sym, ap, ap₂, ◌∙◌}
use mathlib.Core.List.{List, ◌++◌}
use native.Mathlib.Omega.{arith}
use lib.ListN.{length, take, drop, length-append, take-append-drop}
use lib.Seq.{take-append_seam, drop-append_seam}
use borrow.Author.Tests.{leb-true, le-leb}
use Rattle.refusal.proofs.Refusals.{first_zero, later_zero, test_holds, both_zero, unless_holds}
use Rattle.system.specs.System.{n_of, m_of, system_length, WellFormedSystem}
use Rattle.system.proofs.SystemLayout as SystemLaws
use Rattle.record.proofs.RecordLayout as RecordLaws
use Rattle.transcript.specs.Transcript.{fit_refusal, judge_refusal}
use Rattle.reporting.specs.Report.{system_part, record_part, report_refusal, judged_text, report_text}
use Rattle.reporting.specs.Totals.{Reportable}

-- ---- a system with a record behind it

-- it ends where its own n and m say
system_ends : (system b : List ℕ) → WellFormedSystem system → system_length (n_of (system ++ b)) (m_of (system ++ b)) ≡ length system
unfolding system_length
system_ends system b k = rw k.laid_out (omega (arith, k.count))

system_first : (system b : List ℕ) → WellFormedSystem system → system_part (system ++ b) ≡ system
unfolding system_part
system_first system b k = ap (λ (n : ℕ). take n (system ++ b)) (system_ends system b k) ∙ take-append_seam system b

record_behind : (system b : List ℕ) → WellFormedSystem system → record_part (system ++ b) ≡ b
unfolding record_part
record_behind system b k = ap (λ (n : ℕ). drop n (system ++ b)) (system_ends system b k) ∙ drop-append_seam system b

judge_passes : (system b : List ℕ) → Reportable system b → judge_refusal system b ≡ 0
unfolding judge_refusal fit_refusal
judge_passes system b k =
    both_zero _ _ (SystemLaws.not_refused system k.system_well_formed)
    (both_zero _ _ (RecordLaws.not_refused b k.record_well_formed) (unless_holds _ 7 (SystemLaws.sizes_has system _ _ _ k.has_q k.has_n k.has_m)))

report_passes : (system b : List ℕ) → Reportable system b → report_refusal (system ++ b) ≡ 0
unfolding report_refusal
report_passes system b k =
    both_zero _ _ (unless_holds _ 2 (le-leb (length (system ++ b)) 65536 (simp length-append (omega (arith, k.together)))))
    (ap₂ judge_refusal (system_first system b k.system_well_formed) (record_behind system b k.system_well_formed) ∙ judge_passes system b k)

pub reports : (system b : List ℕ) → Reportable system b → report_text (system ++ b) ≡ judged_text system b
unfolding report_text
reports system b k =
    simp (report_passes system b k) (ap₂ judged_text (system_first system b k.system_well_formed) (record_behind system b k.system_well_formed))

-- ---- an input that is not refused

pub joined : (input : List ℕ) → input ≡ system_part input ++ record_part input
unfolding system_part record_part
joined input = sym (take-append-drop (system_length (n_of input) (m_of input)) input)

pub reportable : (input : List ℕ) → report_refusal input ≡ 0 → Reportable (system_part input) (record_part input)
unfolding report_refusal judge_refusal fit_refusal
reportable input none =
    let judged = later_zero _ _ none in
    let rest = later_zero _ _ judged in
    let sizes = SystemLaws.has_sizes_lem (system_part input) _ _ _ (test_holds _ 7 tt (later_zero _ _ rest)) in
    let short = leb-true (length input) 65536 (test_holds _ 2 tt (first_zero _ _ none)) in
    let long = ap length (joined input) ∙ length-append (system_part input) (record_part input) in
    record {
      system_well_formed = SystemLaws.well_formed (system_part input) (first_zero _ _ judged);
      record_well_formed = RecordLaws.well_formed (record_part input) (first_zero _ _ rest);
      has_q = sizes.0;
      has_n = sizes.1;
      has_m = sizes.2;
      together = omega (arith, short, long);
    }
