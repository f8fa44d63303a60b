-- The loop's invariant: the first l polynomials are done, and the next starts at `at`. Assumes nothing.
use Prim.Native.Nat.{◌+◌, ◌*◌}
use mathlib.Core.Path.{◌≡◌}
use Rattle.system.specs.System.{n_of, width}
use Rattle.polynomials.proofs.TimesRow.{DoneTo}
use Rattle.polynomials.proofs.products.Given as goal

abbrev pub invariant-loop-l : goal.invariant-loop-l
invariant-loop-l l =
    (l.at ≡ 3 + l.l * width (n_of l.system.bytes.now)) × DoneTo l.system.bytes.now l.row l.out l.l
