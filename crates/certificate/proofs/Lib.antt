-- The laws that other crates cite.
pub mod Lawful
pub mod RoundTrips
pub mod Places
