-- Laws of a sum of products by its last bit.
pub mod Parity
