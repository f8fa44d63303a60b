-- A worked line, and laws of a book's text as it grows.
pub mod Examples
pub mod Printed
mod CardLines
