-- The laws that other crates cite.
pub mod Stand
pub mod Outcomes
pub mod Classes
pub mod Leaves
pub mod Parts
pub mod Lists
pub mod Resources
pub mod RoundTrips
pub mod Times
pub mod Readers
pub mod Elements
pub mod Laying
pub mod Inner
pub mod Bits
pub mod Strings
pub mod Places
pub mod Identifiers
