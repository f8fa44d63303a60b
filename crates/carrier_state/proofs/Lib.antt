-- Laws of the carrier's session: its phases, and when it answers 11.
pub mod Eleven
pub mod Phases
