-- The round trip of writer and reader, and a table that is put entry by entry.
pub mod BookTrip
pub mod Table
