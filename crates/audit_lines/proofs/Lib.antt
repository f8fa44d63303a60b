-- Worked texts of the audit, and how long a part is.
pub mod Examples
mod Parts
