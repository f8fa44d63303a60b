-- Zeros, and the length 0. Assumes nothing.
use mathlib.Core.Path.{◌≡◌, refl}
use mathlib.Core.List.{[]}
use native.Mathlib.Omega.{arith}
use lib.ListN.{replicate}
use Rattle.slices.specs.Slices.{tabulate}
use Rattle.commitment.specs.Commitment.{longest}
use Rattle.commitment.specs.Texts.{zero_beyond}
use Rattle.commitment.proofs.Texts.{same_text}
use Rattle.commitment.proofs.empty.Goals as goal

zeros_are : replicate longest 0 ≡ zero_beyond []
unfolding zero_beyond tabulate
zeros_are = refl

pub returns : goal.returns
returns c =
    record { is = same_text _ [] _ zeros_are refl; fits = omega arith }
