-- The products with a vector of 96 times a. Assumes nothing.
use Prim.Native.Nat.{ℕ}
use mathlib.Core.Path.{ap, ◌∙◌}
use lib.ListN.{replicate, get_or-replicate}
use Rattle.std.proofs.Common.{rules}
use Rattle.slices.specs.Slices.{◌!◌}
use Rattle.field.specs.Ops.{ops}
use Rattle.field.specs.Vector.{mul_v}
use Rattle.field.proofs.Vectors.{combined_vector, vector_cong}
use Rattle.field.proofs.vector.mul_vector.Goals as goal

pub returns : goal.returns
unfolding mul_v
returns c =
    combined_vector _ _ _ _ _ (λ i. (ops c.args.q).mul (replicate 96 c.args.a ! i) (c.args.x ! i)) c.each.ensures (λ i r k h. search rules) ∙
    vector_cong _ _ _ (λ i h k. ap (λ (a : ℕ). (ops c.args.q).mul a (c.args.x ! i)) (get_or-replicate {A = ℕ} 96 i _ 0 k))
