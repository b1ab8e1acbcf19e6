-- The laws that other crates cite.
pub mod Leaves
pub mod Numbers
pub mod Strings
pub mod Times
pub mod Pairs
pub mod Lengths
pub mod Lists
pub mod Identifiers
pub mod Writers
