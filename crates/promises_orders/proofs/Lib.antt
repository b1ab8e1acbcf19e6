-- The theorems: of any order, and of each function's.
pub mod Order
pub mod Sections
pub mod Cutter
pub mod Packets
pub mod Fed
pub mod Gathering
pub mod Rooms
pub mod Teaching
pub mod Salvage
pub mod Times
