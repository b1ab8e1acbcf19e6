-- The definitions that the theorems cite.
pub mod Alone
pub mod Runs
pub mod Counts
pub mod Demand
pub mod Exchange
