-- The string of one opening of a round's list.
pub mod Listed
