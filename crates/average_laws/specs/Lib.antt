pub mod Divided
pub mod Keeping
pub mod Ratios
