-- The definitions of the road and the statement about it.
pub mod Road
pub mod Calls
pub mod FromFormToScreen
pub mod Travelled
