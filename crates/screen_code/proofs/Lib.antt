-- The laws that callers cite.
pub mod Same
pub mod Printed
pub mod Listed
