-- What the contracts of the audits cite.
pub mod Outcome
pub mod Audit
