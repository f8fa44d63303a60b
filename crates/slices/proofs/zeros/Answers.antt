-- The law is cited so that nothing counts the zeros.
use Rattle.std.proofs.Common.{ℕ, sym, refl}
use lib.ListN.{length-replicate}
use Rattle.slices.specs.Slices.{zeros}
use Rattle.slices.proofs.zeros.Goals as goal

pub returns : goal.returns
unfolding zeros
returns g c =
    (refl, sym (length-replicate {0} {A = ℕ} g.row.N 0))
