pub mod Histograms
pub mod Lowest
pub mod Operations
pub mod Rows
pub mod Selected
pub mod Valued
