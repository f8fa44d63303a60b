-- What the contracts of both ends cite: document 01, "Refused because of the state", verdicts.
pub mod State
