-- Laws of the card's session: what a call that is taken has, its steps, its phases, and when it answers 11.
pub mod Eleven
pub mod Phases
pub mod Steps
pub mod Taken
