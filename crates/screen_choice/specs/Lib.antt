-- The definitions that the contracts cite.
pub mod Choice
pub mod Walk
