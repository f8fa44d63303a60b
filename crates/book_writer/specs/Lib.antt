-- What the contract of the writer cites: document 02, paper 2.
pub mod Writer
