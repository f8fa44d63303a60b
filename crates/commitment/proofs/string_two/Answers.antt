-- Each vector behind the last. Assumes nothing.
use mathlib.Core.List.{append_assoc}
use native.Mathlib.Omega.{arith}
use Rattle.commitment.specs.Commitment.{hashed_string}
use Rattle.commitment.proofs.Texts.{text_as, less_room, take_short}
use borrow.Author.Rules.{rules}
use Rattle.commitment.proofs.string_two.Goals as goal

pub append-requires : goal.append-requires
unfolding hashed_string
append-requires c =
    omega (arith, c.start.ensures.fits, take_short c.args.na c.args.a (search rules))

pub append-requires-2 : goal.append-requires-2
unfolding hashed_string
append-requires-2 c =
    let first = take_short c.args.na c.args.a (search rules) in
    let one = c.append.ensures.holds _ 192 (less_room _ 288 _ _ (omega (arith, first)) c.start.ensures) in
    omega (arith, one.fits, take_short c.args.nb c.args.b (search rules))

pub returns : goal.returns
unfolding hashed_string
returns c =
    let first = take_short c.args.na c.args.a (search rules) in
    let second = take_short c.args.nb c.args.b (search rules) in
    let one = c.append.ensures.holds _ 192 (less_room _ 288 _ _ (omega (arith, first)) c.start.ensures) in
    text_as _ _ 96 _ (c.append-2.ensures.holds _ 96 (less_room _ 192 _ _ (omega (arith, second)) one)) (simp append_assoc)
