-- What the contracts of this crate and of those above it cite: document 01, "Session record".
pub mod Record
pub mod Form
pub mod Rounds
