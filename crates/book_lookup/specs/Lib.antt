-- What the contract of the lookup cites, and what is claimed of it: document 02, paper 2.
pub mod Answer
pub mod Lookup
pub mod Claim
