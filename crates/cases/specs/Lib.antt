-- What the contracts of the vectors' reader cite: a case's pieces, and the comparison of outputs.
pub mod Piece
pub mod Run
