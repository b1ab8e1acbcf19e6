-- The definitions that the theorems cite.
pub mod Account
pub mod Latest
pub mod Answering
pub mod Gathers
pub mod Arrival
pub mod Calls
