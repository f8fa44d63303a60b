-- Honest and simulated rounds are accepted.
pub mod Acceptance
pub mod Clauses
