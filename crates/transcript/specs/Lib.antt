-- What the contracts of this crate and of those above it cite: a record's rounds, their judgement, and what is refused before it.
pub mod Transcript
