-- The laws that the proofs of `time_printing` and of its callers cite.
pub mod Calls
pub mod Laws
pub mod Values
