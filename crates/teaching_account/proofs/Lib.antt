-- The laws, and the theorem.
pub mod Keeping
pub mod Handing
pub mod Missing
pub mod Lockstep
pub mod Bounds
