pub mod Counting
pub mod Quotients
pub mod Feeding
pub mod Naming
