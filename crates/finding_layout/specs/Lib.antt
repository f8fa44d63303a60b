-- The layout of a finding.
pub mod FindingLayout
