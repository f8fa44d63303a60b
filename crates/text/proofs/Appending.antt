-- A text that is written piece by piece. Assumes nothing.
use Prim.Native.Nat.{ℕ, ◌+◌}
use mathlib.Core.Path.{◌≡◌, ◌∙◌}
use mathlib.Core.List.{List, [], ◌++◌}
use native.Mathlib.Nat.{add-zero}
use native.Mathlib.Omega.{arith}
use lib.ListN.{length, length-append, take-append-drop}
use Rattle.slices.specs.Slices.{placed}
use Rattle.slices.proofs.Parts.{placed-append}
use Rattle.text.specs.Text.{decimal, numbered}
use Rattle.text.specs.declared.Writer.{Writer}
use Rattle.text.specs.Writer.{Appends}

-- nothing is put
pub placed_none : (l : List ℕ) (place : ℕ) → placed l place [] ≡ l
unfolding placed
placed_none l place = rw (add-zero place) (take-append-drop place l)

-- a piece behind another is both in one
pub appends_both : {a b c : Writer} {s t : List ℕ} → Appends a b s → Appends b c t → Appends a c (s ++ t)
appends_both {a} {b} {c} {s} {t} p q =
    record {
      bytes = placed-append a.buffer.now b.buffer.now c.buffer.now s t a.written b.written (omega (arith, p.written, p.room, p.size)) p.written p.bytes q.bytes;
      written = simp length-append (omega (arith, p.written, q.written));
      size = q.size ∙ p.size;
      room = q.room;
      same_buffer = q.same_buffer ∙ p.same_buffer;
    }

-- how long a word is with its number
pub numbered_length : (word : List ℕ) (k : ℕ) → length (numbered word k) ≡ length word + length (decimal k)
unfolding numbered
numbered_length word k = length-append word (decimal k)

-- what functions that put pieces in a row want
pub ruleset pieces = (placed_none, placed-append, length-append)
