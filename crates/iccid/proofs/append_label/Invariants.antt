-- A byte a turn. Assumes nothing.
use Prim.Native.Nat.{◌+◌, ◌*◌, ◌≤◌}
use lib.ListN.{take}
use Rattle.text.specs.Writer.{Appends}
use Rattle.iccid.specs.Iccid.{label_digits}
use Rattle.iccid.proofs.append_label.Given as goal

abbrev pub invariant-loop-byte : goal.invariant-loop-byte
invariant-loop-byte l =
    Appends l.initial.text l.text (label_digits (take l.byte-index l.label)) × (l.text.written ≤ l.initial.text.written + 2 * l.byte-index)
