-- What is sent and lent, as the code holds it, in the terms of the protocols' definitions.
use Rattle.std.specs.Prelude.{List, ℕ}
use Rattle.protocol.specs.Protocols as P
use Rattle.round.specs.declared.pieces.Vectors.{Vectors}

-- the code's vectors of a round as the definitions' record
abbrev pub vectors_of : Vectors → P.Vectors (List ℕ) (List ℕ)
vectors_of w = record { r0 = w.r0; r1 = w.r1; t0 = w.t0; t1 = w.t1; e0 = w.e0; e1 = w.e1; mask = w.mask }
