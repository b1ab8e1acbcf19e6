-- The definitions that the contracts cite, and what C is told.
pub mod Answer
pub mod Told
