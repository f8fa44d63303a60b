-- Laws of the reader of books: what it takes is what is well-formed.
pub mod Readings
pub mod WellFormed
pub mod Examples
