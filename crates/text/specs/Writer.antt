-- A text that is written from its front on.
use Rattle.std.specs.Prelude.{ℕ, ◌+◌, ◌≤◌, ◌≡◌, List, length}
use Rattle.slices.specs.Slices.{placed}
use Rattle.text.specs.declared.Writer.{Writer}

-- s stands behind what was written, and all else is as before, in the same lent buffer
pub record Appends (before after : Writer) (s : List ℕ) : Type 0 where
  pub bytes : after.buffer.now ≡ placed before.buffer.now before.written s
  pub size : length after.buffer.now ≡ length before.buffer.now
  pub written : after.written ≡ before.written + length s
  pub room : after.written ≤ length after.buffer.now
  pub same_buffer : after.buffer.ghost_name ≡ before.buffer.ghost_name
