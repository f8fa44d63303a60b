-- What honest rounds send is accepted, at the bytes.
pub mod Honest
