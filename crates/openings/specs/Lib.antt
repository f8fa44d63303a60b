-- What the contracts of this crate and of those above it cite: document 01, "Audit", openings and the secret.
pub mod Openings
