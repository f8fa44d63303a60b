-- What the contracts of this crate cite, and what document 01 asks of a call's arguments.
pub mod Arguments
pub mod Entry
