-- The invariant: none of the offsets before i is refused. Assumes nothing.
use mathlib.Core.Path.{refl}
use native.Mathlib.Omega.{arith}
use Rattle.std.proofs.Common.{rules}
use Rattle.refusal.proofs.Chains.{none_at_start, none_so_far, none_at_end}
use Rattle.book_form.proofs.Loops.{ends_loop}
use Rattle.book_reader.specs.Reader.{offsets_refusal}
use Rattle.book_reader.proofs.check_offsets.Goals as goal

pub loop-i-init : goal.loop-i-init
loop-i-init c = none_at_start _ _ (omega arith)

pub returns-in_err-check_offset : goal.returns-in_err-check_offset
unfolding offsets_refusal
returns-in_err-check_offset c =
    ends_loop _ _ _ _ _ (search rules) c.loop-i.invariant c.in_err-check_offset.ensures (omega arith)

pub loop-i-preserved : goal.loop-i-preserved
loop-i-preserved c =
    none_so_far _ _ _ _ c.loop-i.invariant c.in_ok-check_offset.ensures refl refl

pub returns : goal.returns
unfolding offsets_refusal
returns c =
    none_at_end _ _ _ c.loop-i.invariant (omega arith)
