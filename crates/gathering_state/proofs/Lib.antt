-- The laws that the proofs cite.
pub mod Lists
pub mod State
