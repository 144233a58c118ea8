pub mod Kept
pub mod Raised
pub mod Rings
pub mod Walked
