-- What the contracts of this crate and of those above it cite: document 01, "Audit", the full set.
pub mod FullSet
