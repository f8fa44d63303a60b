-- The offset, then the length. Assumes nothing.
use Prim.Native.Nat.{ℕ}
use mathlib.Core.Path.{ap₂, ◌∙◌}
use mathlib.Core.List.{List, ◌++◌}
use native.Mathlib.Omega.{arith}
use Rattle.record_form.specs.Record.{entry}
use Rattle.record_form.proofs.layout.Body.entry.Goals as goal

pub returns : goal.returns
unfolding entry
returns c =
    let kept = c.put_both.auto.out in
    (c.put_both.ensures ∙ ap₂ (λ (a b : List ℕ). a ++ b) c.word.ensures.0 c.word-2.ensures.0, omega arith)
