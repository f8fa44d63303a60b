-- What the test of an opening says.
pub mod Openings
