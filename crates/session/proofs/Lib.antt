-- The claims about whole sessions, and the laws of logs and phases that they rest on.
pub mod CardHistory
pub mod CardSide
pub mod CarrierHistory
pub mod CarrierSide
pub mod Histories
pub mod HonestSession
pub mod Logs
pub mod Openings
pub mod Phases
pub mod PlayedSession
pub mod Refused
pub mod Schemes
pub mod States
pub mod Verdicts
