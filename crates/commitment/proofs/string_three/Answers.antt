-- One vector more. Assumes nothing.
use mathlib.Core.List.{append_assoc}
use native.Mathlib.Omega.{arith}
use Rattle.commitment.specs.Commitment.{hashed_string}
use Rattle.commitment.proofs.Texts.{text_as, less_room, take_short}
use borrow.Author.Rules.{rules}
use Rattle.commitment.proofs.string_three.Goals as goal

pub append-requires : goal.append-requires
unfolding hashed_string
append-requires c =
    omega (arith, c.string_two.ensures.fits, take_short c.args.nc c.args.c (search rules))

pub returns : goal.returns
unfolding hashed_string
returns c =
    text_as _ _ 0 _ (c.append.ensures.holds _ 0 (less_room _ 96 _ _ (omega (arith, take_short c.args.nc c.args.c (search rules))) c.string_two.ensures)) (simp append_assoc)
