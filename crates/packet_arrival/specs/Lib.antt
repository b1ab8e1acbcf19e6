-- The definitions that the theorems are stated by.
pub mod Packed
pub mod Unmixed
pub mod Served
