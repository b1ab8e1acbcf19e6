-- The laws that the proofs of `time_local` and of its callers cite.
pub mod Clocks
pub mod Forms
pub mod RoundTrip
pub mod Characters
pub mod Values
