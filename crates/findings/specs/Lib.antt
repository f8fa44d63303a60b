-- What the claim about audits says, in document 01's terms.
pub mod Findings
