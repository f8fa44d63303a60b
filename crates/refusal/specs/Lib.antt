-- What the contracts of every crate cite of refusals: document 01, "Refused because of the input", "Order".
pub mod Refusal
