-- The laws that other crates cite.
pub mod Tests
pub mod Counting
pub mod Free
pub mod Marking
pub mod Meaning
