-- What the contracts of this crate and of those above it cite: document 01, "Field and vectors".
pub mod Ops
pub mod Field
pub mod Prime
pub mod Vector
pub mod Combined
pub mod Row
