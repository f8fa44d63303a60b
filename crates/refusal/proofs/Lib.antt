-- Laws of refusals, of what is kept, of chains that are left at their first refusal, and of the first number for which a test holds.
pub mod Refusals
pub mod Chains
pub mod Search
pub mod Answers
