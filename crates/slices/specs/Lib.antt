-- What the contracts of every crate cite of lists of bytes.
pub mod Slices
