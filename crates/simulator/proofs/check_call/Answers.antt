-- The lent slice has the elements and the ρ behind them. Assumes nothing.
use mathlib.Core.Path.{sym}
use native.Mathlib.Omega.{arith}
use lib.Seq.{length-take-le}
use Rattle.refusal.proofs.Refusals.{equal_holds}
use Rattle.simulator.proofs.check_call.Goals as goal

pub slice_bounds-all_below-end : goal.slice_bounds-all_below-end
slice_bounds-all_below-end c =
    sym (length-take-le _ _ (omega (arith, equal_holds _ _ 2 tt (sym c.in_ok-require-2.ensures))))
