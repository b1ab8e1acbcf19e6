-- The laws that the proofs of the functions cite.
pub mod Extension
pub mod Variants
pub mod Inkings
