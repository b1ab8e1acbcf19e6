-- The laws of digits tested side by side.
pub mod Digits
