-- Laws of the lookup: the search, and what an answer says of the book.
pub mod Search
pub mod Examples
pub mod Lookups
pub mod Offsets
