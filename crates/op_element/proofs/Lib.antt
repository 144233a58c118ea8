pub mod Applying
pub mod Feeding
