-- The definitions that the contracts cite.
pub mod Characters
pub mod Input
