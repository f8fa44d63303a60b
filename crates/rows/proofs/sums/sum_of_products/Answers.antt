-- The loop's invariant: the sums are together that of the products of the blocks before this one. Assumes nothing.
use Prim.Native.Nat.{ℕ, ◌+◌, ◌*◌, ◌/◌}
use mathlib.Core.Path.{◌≡◌, refl, ap, ◌∙◌}
use native.Mathlib.Nat.{le_refl}
use native.Mathlib.Omega.{arith}
use lib.ListN.{length}
use Rattle.field.specs.Row.{products}
use Rattle.field.proofs.Rows.{products_start, products_block}
use Rattle.rows.proofs.sums.sum_of_products.Goals as goal

pub loop-block-init : goal.loop-block-init
loop-block-init c =
    (omega arith, products_start _ _)

pub loop-block-preserved : goal.loop-block-preserved
loop-block-preserved c =
    let block = c.loop-block in
    let at = 16 * block.block in
    let next : at + 16 ≡ 16 * (block.block + 1) = omega arith in
    let more = products_block c.args.a.now c.args.b.now at (at + 16) _ _ block.invariant.1 (omega arith) (omega arith) refl in
    (omega (arith, c.add_products.ensures.1, block.invariant.0), c.add_products.ensures.0 ∙ more ∙ ap (products c.args.a.now c.args.b.now) next)

pub returns : goal.returns
returns c =
    let a = c.args in
    let block = c.loop-block in
    let at_end : block.block ≡ length a.a.now / 16 = omega arith in
    c.add_rest.ensures ∙ products_block a.a.now a.b.now (16 * (length a.a.now / 16)) (length a.a.now) _ _ (c.total.ensures ∙ block.invariant.1 ∙ ap (λ (k : ℕ). products a.a.now a.b.now (16 * k)) at_end) (omega arith) (le_refl _) refl
