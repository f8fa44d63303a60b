-- What the contracts of this crate and of those above it cite: document 01, "Commitments".
pub mod Commitment
pub mod Texts
