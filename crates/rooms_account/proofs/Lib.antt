-- The laws of two networks, and the theorems.
pub mod Always
pub mod Shadow
pub mod Taking
pub mod Feeding
pub mod Handing
pub mod Calls
pub mod Runs
pub mod Refusing
pub mod Counts
pub mod Demand
pub mod Exchange
