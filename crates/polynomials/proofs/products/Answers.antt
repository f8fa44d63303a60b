-- A turn multiplies one polynomial's coefficients with the row. Assumes nothing.
use mathlib.Core.Path.{ap, ◌∙◌}
use native.Mathlib.Omega.{arith}
use Rattle.system.specs.System.{width}
use Rattle.polynomials.proofs.TimesRow.{done_step, done_end}
use Rattle.polynomials.proofs.products.Goals as goal

pub loop-l-preserved : goal.loop-l-preserved
loop-l-preserved c =
    let l = c.loop-l in
    done_step _ c.args.system.now.well_formed _ _ _ l.invariant.0 (c.width-w.ensures ∙ ap width c.n.ensures) _ _ _ _ (omega arith) c.q.ensures c.dot.ensures l.invariant.1

pub returns : goal.returns
returns c =
    done_end _ _ _ _ c.args.system.now.well_formed c.loop-l.invariant.1 (omega arith)
