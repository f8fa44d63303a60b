-- What the contracts of the C interface cite beside the entries' own definitions.
pub mod Layouts
