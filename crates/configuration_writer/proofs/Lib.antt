-- The laws that the proofs of the functions cite.
pub mod Judged
pub mod Inkings
pub mod Glances
