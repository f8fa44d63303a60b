-- The code's struct of eight words, read as the specification's record.
use Rattle.sha256_block.specs.Words.{Variables}
use Rattle.sha256_block.specs.declared.state.State.{State}

-- a hash value or working variables as the code has them
abbrev pub variables : State → Variables
variables s = record { a = s.a; b = s.b; c = s.c; d = s.d; e = s.e; f = s.f; g = s.g; h = s.h }
