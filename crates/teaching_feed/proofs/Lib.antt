-- The laws that callers cite.
pub mod Answering
pub mod Fitting
pub mod Refusing
pub mod Keeping
