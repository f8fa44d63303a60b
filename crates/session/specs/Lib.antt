-- What is claimed of whole sessions, in document 01's terms: "Sessions".
pub mod Honest
pub mod Histories
pub mod Played
pub mod Session
