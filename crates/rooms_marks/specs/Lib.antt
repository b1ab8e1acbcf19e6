-- The definitions that the contracts cite.
pub mod Rooms
pub mod Marks
