-- The laws that the functions' proofs cite, and values of the definition.
mod Hosts
mod Values
