-- What the contract of the writer cites: document 01, "Session record".
pub mod Writer
