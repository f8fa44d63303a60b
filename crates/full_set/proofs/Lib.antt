-- Which challenges three records have.
pub mod Asked
