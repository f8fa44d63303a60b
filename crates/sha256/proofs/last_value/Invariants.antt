-- `last_value` meets its contract. The loop's invariant: the state is the hash value after the first i blocks of the padded message.
use mathlib.Core.Path.{◌≡◌}
use Rattle.sha256_block.specs.State.{variables}
use Rattle.sha256.specs.Padding.{pad}
use Rattle.sha256.specs.Sha256.{hash_value}
use Rattle.sha256.proofs.last_value.Given as goal

abbrev pub invariant-loop-i : goal.invariant-loop-i
invariant-loop-i l = (variables l.s ≡ hash_value (pad l.message) l.i)
