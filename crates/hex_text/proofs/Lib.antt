-- Laws of hex digits.
mod Digits
