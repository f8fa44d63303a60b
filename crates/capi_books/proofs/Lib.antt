-- What is written by the C interface's books, and what its answers mean.
pub mod Outputs
pub mod Header
