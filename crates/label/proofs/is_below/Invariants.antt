-- The invariant: the answer is that of the bytes that are left. Assumes nothing.
use mathlib.Core.Path.{◌≡◌}
use lib.ListN.{length}
use Rattle.std.specs.Iterator.Adapters.{zip_first, zip_second}
use Rattle.std.specs.Slice.Iter.{iter_rest}
use Rattle.label.specs.Label.{halves}
use Rattle.label.specs.Tests.{rises, is_below}
use Rattle.label.proofs.is_below.Given as goal

abbrev pub invariant-loop-x : goal.invariant-loop-x
invariant-loop-x l =
    let xs = iter_rest (zip_first l.x-iterator) in
    let ys = iter_rest (zip_second l.x-iterator) in
    (length xs ≡ length ys) × (rises (halves xs) (halves ys) ≡ is_below l.a l.b)
