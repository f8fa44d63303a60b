-- Completeness, special soundness and simulation: `Properties` over any structure, `Rounds` at a system's bytes.
pub mod Groups
pub mod Properties
pub mod Rounds
pub mod SystemMap
