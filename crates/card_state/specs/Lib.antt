-- What the contracts of this crate and of the session's claim cite: document 01, "Sessions", the card.
pub mod Card
