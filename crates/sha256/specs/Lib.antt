-- What the contracts of this crate and of those above it cite: FIPS 180-4.
pub mod Padding
pub mod Sha256
pub mod Examples
pub mod Digest
