-- Laws of decimal digits, of pieces in a row, of the digits of a list, and of lines and words read back.
pub mod Decimal
pub mod Appending
pub mod Digits
pub mod Reading
