-- The laws of the answers to C.
pub mod Answer
pub mod Told
