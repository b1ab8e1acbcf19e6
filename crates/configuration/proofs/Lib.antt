-- The laws that other crates cite.
pub mod Least
pub mod Orders
pub mod Lawful
pub mod RoundTrips
pub mod Places
pub mod Values
pub mod Clocks
