-- The laws that other crates cite.
pub mod Laying
pub mod Packets
pub mod Calls
