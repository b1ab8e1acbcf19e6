-- The definitions that the contracts cite, and what is said of them.
pub mod Reading
pub mod Runs
pub mod Salvage
pub mod Said
