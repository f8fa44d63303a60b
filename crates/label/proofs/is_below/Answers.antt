-- The invariant: the answer is that of the bytes that are left. Assumes nothing.
use mathlib.Core.Path.{◌≡◌, sym, ap, ap₂, ◌∙◌}
use mathlib.Core.List.{◌∷◌}
use native.Mathlib.Omega.{arith}
use lib.ListN.{length}
use Rattle.std.proofs.Common.{rules}
use Rattle.std.specs.Iterator.Adapters.{zip_first, zip_second}
use Rattle.std.specs.Slice.Iter.{iter_rest}
use Rattle.std.proofs.lemmas.Iterator.{empty_from_Zip}
use Rattle.label.specs.Label.{halves}
use Rattle.label.specs.Tests.{rises}
use Rattle.label.proofs.Labels.{first_same, first_decides, none_left, ten_below}
use Rattle.label.proofs.is_below.Goals as goal

pub loop-x-init : goal.loop-x-init
loop-x-init c =
    let first : iter_rest (zip_first c.into_iter-x-iterator.result) ≡ c.args.a.now = search rules in
    let second : iter_rest (zip_second c.into_iter-x-iterator.result) ≡ c.args.b.now = search rules in
    (ap length first ∙ omega arith ∙ sym (ap length second), ap₂ (λ xs ys. rises (halves xs) (halves ys)) first second ∙ ten_below _ _ (omega arith) (omega arith))

pub returns-then-x-y : goal.returns-then-x-y
returns-then-x-y c =
    let xs : iter_rest (zip_first c.loop-x.x-iterator) ≡ c.in-Some.field-0-0.now ∷ iter_rest (zip_first c.next.new.self) = search rules in
    let ys : iter_rest (zip_second c.loop-x.x-iterator) ≡ c.in-Some.field-0-1.now ∷ iter_rest (zip_second c.next.new.self) = search rules in
    first_decides _ _ _ _ _ _ _ _ xs ys c.in_order.ensures c.in_order-then-x-y.ensures c.if-x-y.true ∙ c.loop-x.invariant.1

pub loop-x-preserved : goal.loop-x-preserved
loop-x-preserved c =
    let xs : iter_rest (zip_first c.loop-x.x-iterator) ≡ c.in-Some.field-0-0.now ∷ iter_rest (zip_first c.next.new.self) = search rules in
    let ys : iter_rest (zip_second c.loop-x.x-iterator) ≡ c.in-Some.field-0-1.now ∷ iter_rest (zip_second c.next.new.self) = search rules in
    (omega (arith, ap length xs, ap length ys, c.loop-x.invariant.0), sym (first_same _ _ _ _ _ _ xs ys c.if-x-y.false) ∙ c.loop-x.invariant.1)

pub returns : goal.returns
returns c =
    let spent = empty_from_Zip _ c.next.new.self _ c.in-None.is c.next.ensures.steps (search rules) in
    none_left _ _ spent.0 ∙ c.loop-x.invariant.1
