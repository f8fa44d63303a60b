-- Nothing is filled at first. Assumes nothing.
use Rattle.field.proofs.Vectors.{combined_start}
use Rattle.field.proofs.vector.each.Goals as goal

pub loop-i-init : goal.loop-i-init
loop-i-init g c =
    combined_start _ _ _
