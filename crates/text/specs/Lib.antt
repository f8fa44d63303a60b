-- What the contracts of this crate and of those above it cite.
pub mod Text
pub mod Writer
pub mod Reading
