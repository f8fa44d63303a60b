-- What the contracts of this crate and of those above it cite: document 01, "Order", what an audit refuses before it looks for a full set.
pub mod Comparable
