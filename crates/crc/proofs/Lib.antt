-- The laws of the checksums and the values to hold.
pub mod Laws
pub mod Walk
pub mod Braid
pub mod Burst
pub mod Vectors
