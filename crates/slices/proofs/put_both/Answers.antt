-- The second piece stands behind the first. Assumes nothing.
use mathlib.Core.Path.{refl}
use Rattle.slices.proofs.Parts.{placed_both}
use Rattle.slices.proofs.put_both.Goals as goal

pub returns : goal.returns
returns c =
    placed_both c.args.a.now c.args.b.now c.args.out.now _ _ _ refl c.requires c.put.ensures c.put-2.ensures
