-- What contracts and theorems about rounds cite.
pub mod Protocols
pub mod Rounds
pub mod Structure
