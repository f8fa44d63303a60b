-- The reader refuses exactly what is not well-formed, and what else other crates cite of records.
pub mod Readings
pub mod RecordLayout
