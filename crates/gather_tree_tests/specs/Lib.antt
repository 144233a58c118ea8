pub mod Askable
pub mod Fitting
pub mod Growing
pub mod Loads
