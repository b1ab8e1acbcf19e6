-- The laws that the functions' proofs and later crates cite.
pub mod Bytes
pub mod Reading
pub mod Accepting
pub mod Printing
pub mod RoundTrip
pub mod Damage
