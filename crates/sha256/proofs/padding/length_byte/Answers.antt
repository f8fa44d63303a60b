-- `padding::length_byte` meets its contract: the library's bytes of a number of 64 bits are those of FIPS 180-4.
use mathlib.Core.Path.{ap, ◌∙◌}
use mathlib.Core.List.{List}
use Prim.Native.Nat.{ℕ}
use lib.ListN.{get_or}
use Rattle.sha256.proofs.NumberBytes.{be_bytes_8, get_or-bytes_of}
use Rattle.sha256.proofs.padding.length_byte.Goals as goal

pub returns : goal.returns
returns c =
    ap (λ (l : List ℕ). get_or l c.args.j 0) (c.to_be_bytes.ensures ∙ be_bytes_8 _) ∙ get_or-bytes_of 8 _ c.args.j c.requires.1
