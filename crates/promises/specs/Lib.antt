-- The promises: three demands, what is salvaged, the values of document 01, each offered function's results, and the useless versions that they shut out.
pub mod Lists
pub mod Places
pub mod Told
pub mod Demand1
pub mod LocalTimes
pub mod Demand2
pub mod Demand3
pub mod Salvaging
pub mod Packets
pub mod Rooms
pub mod Teaching
pub mod Road
pub mod Values
pub mod Determined
pub mod Offered
pub mod Useless
