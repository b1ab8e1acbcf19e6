-- The laws that the functions' proofs cite.
mod ClockWalks
mod AddressWalks
mod Commands
mod Glances
