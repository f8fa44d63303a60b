-- A byte a turn. Assumes nothing.
use lib.ListN.{take}
use Prim.Native.Nat.{◌+◌, ◌*◌}
use mathlib.Core.Path.{◌≡◌}
use Rattle.text.specs.Writer.{Appends}
use Rattle.hex_text.specs.Hex.{hex}
use Rattle.hex_text.proofs.append_hex.Given as goal

abbrev pub invariant-loop-byte : goal.invariant-loop-byte
invariant-loop-byte l = Appends l.initial.text l.text (hex (take l.byte-index l.s)) × (l.text.written ≡ l.initial.text.written + 2 * l.byte-index)
