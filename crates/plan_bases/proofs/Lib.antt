pub mod Counting
pub mod Feeding
pub mod Narrowing
pub mod Putting
pub mod Tried
