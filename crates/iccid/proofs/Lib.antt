-- Worked labels, and laws of a label's digits and of an ICCID's label.
pub mod Examples
mod Digits
pub mod RoundTrip
