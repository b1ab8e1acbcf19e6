-- The laws that other crates cite.
pub mod Pairs
pub mod Numbers
pub mod Strings
pub mod Lengths
pub mod Lists
pub mod Writers
