-- Each entry behind the last, to the end. Assumes nothing.
use mathlib.Core.Path.{refl, ◌∙◌}
use mathlib.Core.List.{[]}
use native.Mathlib.Omega.{arith}
use Rattle.slices.proofs.Parts.{placed_next, placed_all}
use Rattle.record_form.specs.Record.{table}
use Rattle.record_form.proofs.layout.Header.table.Goals as goal

pub returns : goal.returns
unfolding table
returns c =
    let k = c.entry in
    let m = c.entry-2 in
    let x = c.entry-3 in
    let one = c.put in
    let two = c.put-2 in
    let three = c.put-3 in
    let k-long = k.ensures.1 in
    let m-long = m.ensures.1 in
    let x_long = x.ensures.1 in
    let one_kept = one.auto.out in
    let two-kept = two.auto.out in
    let three-kept = three.auto.out in
    let first = placed_next [] _ _ one.new.out 0 8 refl (omega arith) (omega arith) one.ensures in
    let second = placed_next _ _ one.new.out two.new.out 8 16 first (omega arith) (omega arith) two.ensures in
    let third = placed_next _ _ two.new.out three.new.out 16 24 second (omega arith) (omega arith) three.ensures in
    (placed_all _ three.new.out 24 third (omega arith) ∙ simp (k.ensures.0, m.ensures.0, x.ensures.0, c.layout-l.ensures.0), omega arith)
