-- What schemes above use of a scheme and its byte.
pub mod Bytes
