-- The definitions that the contracts cite.
pub mod Crc
pub mod Lanes
