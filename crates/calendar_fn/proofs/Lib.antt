pub mod Counting
pub mod DayNumbers
pub mod Repeating
pub mod SameDates
pub mod Ends
pub mod Ranges
