pub mod Loading
pub mod Untold
