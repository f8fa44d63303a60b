-- The checks pass exactly where header and exchanges are valid; a record's bodies are its rounds.
pub mod ValidForm
pub mod Rounds
