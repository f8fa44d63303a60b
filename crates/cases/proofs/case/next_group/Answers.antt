-- The head has five bytes at least.
use Rattle.std.proofs.Common.{arith}
use Rattle.cases.proofs.case.next_group.Goals as goal

pub returns : goal.returns
returns c = omega (arith, c.in_ok-bytes.ensures.left, c.in_ok-name.ensures.left, c.in_ok-cases.ensures.left)
