-- The laws of rings and fields, of vectors and of rows; `Fields` is where a field plugs in.
pub mod Modulus
pub mod Sums
pub mod Trial
pub mod Remainders
pub mod Fields
pub mod Elements
pub mod Vectors
pub mod Rows
