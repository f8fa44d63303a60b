-- Worked lines, and lines read back.
pub mod Examples
pub mod ReadLines
