-- The laws of the choice.
pub mod Fields
pub mod Leading
pub mod Messages
pub mod Chosen
