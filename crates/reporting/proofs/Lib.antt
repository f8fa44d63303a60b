-- Laws of the report's text as it grows, and what is claimed of its end.
pub mod RoundLines
pub mod Lines
mod Inputs
pub mod Totals
