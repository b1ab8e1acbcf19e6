-- The proofs of what is promised.
pub mod Least
pub mod Words
pub mod Numbers
pub mod Within
pub mod Promise
