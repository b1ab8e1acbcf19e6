-- The laws that other crates cite.
pub mod Places
pub mod Plans
pub mod Laid
