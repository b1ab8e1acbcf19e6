-- The laws that other crates cite, and values.
pub mod Values
pub mod Lawful
pub mod RoundTrips
pub mod Places
