-- The list of refusals and its orders: what "given exactly when the list says" means, and each order line by line.
pub mod Order
pub mod Sections
pub mod Cutter
pub mod Packets
pub mod Gathering
pub mod Rooms
pub mod Teaching
pub mod Salvage
pub mod Times
