-- The laws that other crates cite.
pub mod Lawful
pub mod RoundTrips
pub mod Extension
pub mod Places
pub mod Smallest
pub mod Variants
