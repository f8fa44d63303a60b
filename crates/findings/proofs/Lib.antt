-- The claim about audits; `Audits` has it for both schemes.
pub mod Comparing
pub mod Numbers
pub mod Rejecting
pub mod FullSets
pub mod Strings
pub mod Elements
pub mod Secrets
pub mod Search
pub mod Audits
