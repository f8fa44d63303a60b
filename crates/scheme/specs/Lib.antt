-- What the contracts of this crate and of those above it cite: the schemes, their bytes, counts and lengths.
pub mod Scheme
