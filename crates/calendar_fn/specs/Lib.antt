pub mod Calendar
pub mod Parts
pub mod Jiff
pub mod Laws
