-- What is not refused, and what the entries then write.
pub mod Arguments
pub mod Entries
