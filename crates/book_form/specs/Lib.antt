-- What the contracts of this crate and of those above it cite: document 02, paper 2.
pub mod Book
pub mod Labels
pub mod Values
