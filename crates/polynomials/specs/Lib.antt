-- What the contracts of this crate cite.
pub mod Monomials
pub mod Polar
