-- The laws that the proofs of `time_offset` and of its callers cite.
pub mod Signed
pub mod Floors
pub mod Moving
pub mod Exact
pub mod Values
