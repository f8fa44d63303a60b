-- What the contracts of this crate cite: the sessions that refuse.
pub mod Refused
