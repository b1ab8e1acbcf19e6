-- The definitions that the contracts of `time_printing` cite.
pub mod Printing
pub mod Typing
pub mod Promised
