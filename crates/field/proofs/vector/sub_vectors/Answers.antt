-- The difference of two vectors, place by place. Assumes nothing.
use Rattle.std.proofs.Common.{rules}
use Rattle.field.specs.Vector.{sub_v}
use Rattle.field.proofs.Vectors.{combined_vector}
use Rattle.field.proofs.vector.sub_vectors.Goals as goal

pub returns : goal.returns
unfolding sub_v
returns c =
    combined_vector _ _ _ _ _ _ c.each.ensures (λ i r k h. search rules)
