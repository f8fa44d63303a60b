-- Laws of lists of bytes: what stands where, parts, equal pieces, equal lists, numbers of four bytes, tests in a row.
pub mod Booleans
pub mod Tabulate
pub mod Parts
pub mod Sameness
pub mod Joined
pub mod Words
