-- K1 to K12, proved, and that sessions with this key exist.
pub mod Examples
pub mod Sessions
