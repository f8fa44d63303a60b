-- The loop's invariant: the sums have grown by the first k products, each at most 255 times 255. Assumes nothing.
use mathlib.Core.Path.{refl, ◌∙◌}
use native.Mathlib.Omega.{arith}
use lib.ListN.{length-set}
use Rattle.std.proofs.Common.{ℕ, ◌+◌, ◌*◌, slice_index_or}
use Rattle.std.proofs.lemmas.List.Sums.{sum_by-set}
use Rattle.field.proofs.Modulus.{byte_product}
use Rattle.field.proofs.Rows.{products_start, products_step}
use Rattle.rows.proofs.sums.add_products.Goals as goal

pub loop-k-init : goal.loop-k-init
loop-k-init c =
    let none = products_start c.args.a.now c.args.b.now in
    (c.requires.0, omega arith, omega (arith, none))

pub loop-k-preserved : goal.loop-k-preserved
loop-k-preserved c =
    let at = c.loop-k in
    let product = c.from.result * c.from-in-loop-k.result in
    let old = slice_index_or at.sums at.k 0 in
    let more = sum_by-set (λ (x : ℕ). x) at.sums at.k (old + product) 0 (omega (arith, at.invariant.0)) in
    let step = products_step c.args.a.now c.args.b.now at.k _ _ _ refl c.from.ensures c.from-in-loop-k.ensures in
    let small = byte_product c.from.result c.from-in-loop-k.result (omega (arith, c.from.ensures)) (omega (arith, c.from-in-loop-k.ensures)) in
    (length-set _ _ _ ∙ at.invariant.0, omega (arith, more, small, at.invariant.1), omega (arith, more, step, at.invariant.2))
