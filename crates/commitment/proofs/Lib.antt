-- Laws of strings that are held with their length, and that a hashed string determines what is hashed.
pub mod Determined
pub mod Texts
