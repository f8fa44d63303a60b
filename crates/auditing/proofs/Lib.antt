-- What the audits' functions share in their proofs, and laws of outcomes for the claim.
pub mod Answering
pub mod Outcomes
