-- The laws of days: of tests, of months and their starts, of the table, of the three answers; and the stated values.
pub mod Months
pub mod Table
pub mod Answers
pub mod Theorems
pub mod Values
