-- What the contracts of this crate cite: a record's header, and a session's calls of one round.
pub mod Bench
