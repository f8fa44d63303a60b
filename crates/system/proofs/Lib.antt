-- A system is refused exactly when it is not well-formed, what follows from its not being refused, and that F is source document 000's.
pub mod Folding
pub mod SystemLayout
