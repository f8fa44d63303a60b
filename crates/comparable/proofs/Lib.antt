-- Laws of an audit's refusals before a full set is looked for.
pub mod Passed
pub mod Rejections
pub mod Schemes
