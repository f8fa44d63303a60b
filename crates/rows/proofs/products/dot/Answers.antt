-- The remainder of the sum of the products is the field's sum; by 2 it is the last bit. Assumes nothing.
use Prim.Native.Nat.{ℕ, ◌%◌}
use mathlib.Core.Path.{ap, ◌∙◌}
use lib.ListN.{length}
use Rattle.field.specs.Ops.{modulus}
use Rattle.field.specs.Row.{products}
use Rattle.field.proofs.Modulus.{modulus_two}
use Rattle.field.proofs.Rows.{products-sum}
use Rattle.rows.proofs.products.dot.Goals as goal

pub returns-then-q-eq2 : goal.returns-then-q-eq2
returns-then-q-eq2 c =
    let a = c.args in
    c.parity.ensures ∙ ap (λ (m : ℕ). products a.a.now a.b.now (length a.a.now) % m) (modulus_two a.q c.if-q-eq2.true) ∙ products-sum a.q _ _ _

pub returns-else-q-eq2 : goal.returns-else-q-eq2
returns-else-q-eq2 c =
    c.reduce_total.ensures ∙ ap (λ (t : ℕ). t % modulus c.args.q) c.sum_of_products.ensures ∙ products-sum c.args.q _ _ _
