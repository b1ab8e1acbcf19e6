-- The laws that callers cite.
pub mod Saying
pub mod Walking
pub mod Undisputed
pub mod Missing
pub mod Standing
