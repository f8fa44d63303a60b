-- What is given at each place is the combination; where b is 0, one product is. Assumes nothing.
use mathlib.Core.Path.{◌∙◌}
use lib.ListN.{length}
use Rattle.std.proofs.Common.{rules}
use Rattle.slices.proofs.Tabulate.{tabulate_of}
use Rattle.field.proofs.Rows.{scaled}
use Rattle.rows.proofs.combination.combine.Goals as goal

pub returns-then-b-eq0 : goal.returns-then-b-eq0
returns-then-b-eq0 c =
    let a = c.args in
    tabulate_of _ _ _ c.fill.ensures.length (λ i h. let k = c.fill.ensures.given i h in search rules) ∙
    scaled a.q a.a a.b a.x.now a.y.now (length a.out.now) c.if-b-eq0.true

pub returns-else-sparse : goal.returns-else-sparse
returns-else-sparse c =
    tabulate_of _ _ _ c.fill-else-sparse.ensures.length (λ i h. let k = c.fill-else-sparse.ensures.given i h in search rules)
