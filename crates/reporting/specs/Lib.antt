-- What the contract of the report cites, document 01, "Report program"; and what is claimed of its text, document 02, Paper 1.
pub mod Report
pub mod Totals
