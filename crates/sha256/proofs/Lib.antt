-- The laws that several functions' proofs share. `DigestBytes` has what other crates cite of a digest.
pub mod NumberBytes
mod PaddedMessage
mod HashValue
pub mod DigestBytes
