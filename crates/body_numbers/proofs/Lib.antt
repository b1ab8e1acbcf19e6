-- The laws of short numbers.
pub mod Numbers
