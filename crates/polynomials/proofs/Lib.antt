-- F and G: the laws of their forms, and how the code's one pass meets them.
pub mod Evaluation
pub mod Forms
pub mod Laws
pub mod TimesRow
pub mod Triangle
