-- What is promised of the choice.
pub mod Promise
