-- What the contracts of this crate and of `sha256` cite: FIPS 180-4.
pub mod Bytes
pub mod Words
pub mod Constants
pub mod Block
pub mod State
