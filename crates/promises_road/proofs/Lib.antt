-- The theorem, and the steps that it is put together from.
pub mod Calls
pub mod Called
pub mod Written
pub mod Arrived
pub mod Shown
pub mod FromFormToScreen
pub mod Drill
pub mod Travelled
