pub mod Counts
pub mod Ratios
