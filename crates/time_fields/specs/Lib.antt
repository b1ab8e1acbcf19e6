-- The definitions of times that contracts cite.
pub mod Field
pub mod Showing
