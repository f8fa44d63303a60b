-- What of a buffer is a file's.
use Rattle.std.specs.Prelude.{ℕ, List, take}
use Rattle.audit_lines.specs.declared.File.{File}

-- a file's bytes, those of its length at the front of its buffer
abbrev pub bytes_of : File → List ℕ
bytes_of file = take file.length file.buffer.now
