-- The round trip of writer and reader.
pub mod RoundTrip
