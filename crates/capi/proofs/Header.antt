-- What include/canvasfox.h says of answers beside the contracts. Assumes nothing.
use Prim.Native.Nat.{ℕ, ◌-◌, ◌<◌}
use mathlib.Core.Path.{◌≡◌, refl, sym, ◌∙◌}
use mathlib.Core.Bool.{Bool, true, false, cond, true≢false}
use mathlib.Core.Logic.{◌⊎◌, inl, inr}
use mathlib.Core.List.{List, ◌∷◌, ◌++◌}
use native.Mathlib.Omega.{arith}
use lib.Dec.{eqb}
use lib.ListN.{length, length-append}
use borrow.Author.Tests.{eq-eqb}
use Rattle.slices.specs.Slices.{◌!◌}
use Rattle.slices.proofs.Booleans.{either}
use Rattle.scheme.specs.declared.Scheme.{Scheme}
use Rattle.comparable.specs.Comparable.{comparable_refusal, rejection_of}
use Rattle.full_set.specs.FullSet.{first_full}
use Rattle.clash.specs.Clash.{first_clash}
use Rattle.record_form.specs.Record.{header_in}
use Rattle.text.specs.Text.{numbered}
use Rattle.report_lines.specs.ReportLines.{verdict_start, refused_word, verdict_line, refused_line}
use Rattle.reporting.specs.Report.{system_part, record_part, report_refusal, round_lines, judged_text, report_text}
use Rattle.auditing.specs.Outcome.{Outcome, secret, clash, refused, clashed, answer_of}
use Rattle.auditing.specs.Audit.{clash_at, secret_at, finding_at, search_of, audit_of}
use Rattle.finding_layout.specs.FindingLayout.{kind_bytes, finding_bytes}
use Rattle.capi.specs.Layouts.{audit_number}

-- ---- an audit that answers 0 has a finding

-- a refusal by another number than 0
unfoldable Numbered : Outcome → Type 0
Numbered (secret s) = Unit {0}
Numbered (clash k x y) = Unit {0}
Numbered (refused number whose round) = number ≡ 0 → ⊥

unless_refused : (early : ℕ) (x : Outcome) → Numbered x → Numbered (cond (eqb early 0) x (refused early 0 0))
unfolding Numbered
unless_refused early x of_x = go (eqb early 0) refl
  where
    go : (t : Bool) → eqb early 0 ≡ t → Numbered (cond t x (refused early 0 0))
    go true e = of_x
    go false e = λ none. absurd (true≢false (sym (eq-eqb early 0 none) ∙ e))

-- 8 and 9
above : (number whose round : ℕ) → 0 < number → Numbered (refused number whose round)
unfolding Numbered
above number whose round positive = λ none. absurd (omega (arith, positive, none))

of_secret : (scheme : Scheme) (system a b c : List ℕ) (r : ℕ) → Numbered (secret_at scheme system a b c r)
unfolding Numbered secret_at
of_secret scheme system a b c r = tt

of_clash : (scheme : Scheme) (system a b c d : List ℕ) (r k : ℕ) → Numbered (clash_at scheme system a b c d r k)
unfolding Numbered clash_at
of_clash scheme system a b c d r k = tt

finding_numbered : (scheme : Scheme) (system a b c d : List ℕ) (r : ℕ) → Numbered (finding_at scheme system a b c d r)
unfolding finding_at
finding_numbered scheme system a b c d r = either Numbered (eqb (first_clash scheme system a b c d r) 0) _ _ (of_secret scheme system a b c r) (of_clash scheme system a b c d r _)

search_numbered : (scheme : Scheme) (system a b c d : List ℕ) → Numbered (search_of scheme system a b c d)
unfolding search_of
search_numbered scheme system a b c d =
    either Numbered (eqb (first_full scheme a b c d) 0) _ _ (above 9 0 0 (omega arith)) (finding_numbered scheme system a b c d (first_full scheme a b c d - 1))

audit_numbered : (scheme : Scheme) (system a b c d : List ℕ) → Numbered (audit_of scheme system a b c d)
unfolding audit_of
audit_numbered scheme system a b c d =
    unless_refused (comparable_refusal scheme system a b c d) _
    (either Numbered (eqb (rejection_of scheme system a b c d).whose 0) _ _ (search_numbered scheme system a b c d) (above 8 _ _ (omega arith)))

told : (o : Outcome) → Numbered o → audit_number (answer_of o).finding ≡ 0 → (finding_bytes (answer_of o) ! 0 ≡ 1) ⊎ (finding_bytes (answer_of o) ! 0 ≡ 2)
unfolding Numbered audit_number answer_of clashed finding_bytes kind_bytes
told (secret s) numbered none = inl refl
told (clash k x y) numbered none = inr refl
told (refused number whose round) numbered none = absurd (numbered (omega (arith, none)))

-- canvasfox.h: "Byte 0: 1 for a secret, 2 for a clash.": so it is wherever an audit answers 0
pub found : (scheme : Scheme) (system a b c d : List ℕ) →
    let audited = answer_of (audit_of scheme system a b c d) in
    audit_number audited.finding ≡ 0 → (finding_bytes audited ! 0 ≡ 1) ⊎ (finding_bytes audited ! 0 ≡ 2)
found scheme system a b c d = told (audit_of scheme system a b c d) (audit_numbered scheme system a b c d)

-- ---- a report is never empty

some_behind : (l r : List ℕ) (k : ℕ) → length (l ++ (k ∷ r)) ≡ 0 → ⊥
some_behind l r k none = let long = sym (length-append l (k ∷ r)) ∙ none in absurd (omega (arith, long))

some_judged : (system b : List ℕ) → length (judged_text system b) ≡ 0 → ⊥
unfolding judged_text verdict_line verdict_start
some_judged system b none = some_behind (round_lines system b (header_in b).rounds) _ 118 none

some_refused : (k : ℕ) → length (refused_line k) ≡ 0 → ⊥
unfolding refused_line numbered refused_word
some_refused k none = absurd (omega (arith, none))

-- canvasfox.h: "The answer is the text's length, which is never 0"
pub some_text : (input : List ℕ) → length (report_text input) ≡ 0 → ⊥
unfolding report_text
some_text input = go (eqb (report_refusal input) 0)
  where
    go : (t : Bool) → length (cond t (judged_text (system_part input) (record_part input)) (refused_line (report_refusal input))) ≡ 0 → ⊥
    go true none = some_judged (system_part input) (record_part input) none
    go false none = some_refused (report_refusal input) none
