-- Document 01, "The small key": K1 to K12.
pub mod SmallKey
