-- The header, then the table behind it. Assumes nothing.
use Prim.Native.Nat.{ℕ}
use mathlib.Core.Path.{ap₂, ◌∙◌}
use mathlib.Core.List.{List, [], ◌∷◌, ◌++◌}
use Rattle.record_form.specs.Record.{layout_of, table}
use Rattle.capi.specs.Layouts.{fields_bytes}
use Rattle.capi.proofs.layouts.write_fields.Goals as goal

pub returns : goal.returns
unfolding fields_bytes layout_of table
returns c =
    let h = c.args.h in
    c.put_both.ensures ∙
    ap₂ (λ (x : ℕ) (t : List ℕ). (1 ∷ x ∷ h.q ∷ h.n ∷ h.m ∷ h.rounds ∷ []) ++ t) c.from.ensures c.table-contents.ensures.0
