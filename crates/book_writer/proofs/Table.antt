-- A table that is put entry by entry. Assumes nothing.
use Prim.Native.Nat.{ℕ, ◌+◌, ◌*◌, ◌≤◌, ◌<◌}
use mathlib.Core.Path.{◌≡◌, refl, sym, ap, ◌∙◌}
use mathlib.Core.List.{List, ◌++◌, append_assoc, append-nil}
use native.Mathlib.Omega.{arith}
use native.Mathlib.Numerals.{add-one}
use lib.ListN.{length, take}
use Rattle.slices.specs.Slices.{placed, joined}
use Rattle.slices.proofs.Parts.{placed_next, length-placed}
use Rattle.book_form.specs.declared.layout.Front.{Front}
use Rattle.book_form.specs.Book.{entry}
use Rattle.book_form.proofs.BookLayout.{entry_long}
use Rattle.book_writer.specs.Writer.{fields_of}

-- the first i entries stand behind the first seven bytes of what was there
abbrev pub TableTo : List ℕ → Front → List ℕ → List ℕ → ℕ → Type 0
TableTo before h labels out i = (take (7 + i * 14) out ≡ take 7 before ++ joined i (entry h labels)) × (length out ≡ length before)

pub table_start : (before : List ℕ) (h : Front) (labels : List ℕ) → TableTo before h labels before 0
unfolding joined
table_start before h labels = (sym (append-nil (take 7 before)), refl)

pub table_step : (before : List ℕ) (h : Front) (labels out next : List ℕ) (i : ℕ) → length labels ≡ h.count * 10 → i < h.count → 7 + h.count * 14 ≤ length out →
    TableTo before h labels out i → next ≡ placed out (7 + i * 14) (entry h labels i) → TableTo before h labels next (i + 1)
unfolding joined
table_step before h labels out next i labels_long below room (done, long) put =
    let each = entry_long (fields_of h labels labels) labels_long i below in
    let within : 7 + i * 14 + length (entry h labels i) ≤ length out = omega (arith, each, room, below) in (
      placed_next (take 7 before ++ joined i (entry h labels)) (entry h labels i) out next (7 + i * 14) (7 + (i + 1) * 14) done within (omega (arith, each)) put ∙
          append_assoc (take 7 before) (joined i (entry h labels)) (entry h labels i) ∙
          ap (λ (k : ℕ). take 7 before ++ joined k (entry h labels)) (sym (add-one i)),
      ap length put ∙ length-placed out (entry h labels i) (7 + i * 14) within ∙ long,
    )

pub table_end : (before : List ℕ) (h : Front) (labels out : List ℕ) (i : ℕ) → i ≡ h.count → TableTo before h labels out i → TableTo before h labels out h.count
table_end before h labels out i last (done, long) = (
  ap (λ (k : ℕ). take (7 + k * 14) out) (sym last) ∙ done ∙ ap (λ (k : ℕ). take 7 before ++ joined k (entry h labels)) last,
  long,
)
