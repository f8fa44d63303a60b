-- What the contracts of this crate and of those above it cite: the lines of the report, as they are written and as they are read.
pub mod ReportLines
pub mod ReadLines
