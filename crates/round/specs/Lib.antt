-- What the contracts of this crate and of those above it cite: document 01, "Three-pass round", "Five-pass round", "Simulator".
pub mod Pieces
pub mod Openings
pub mod ThreePass
pub mod FivePass
