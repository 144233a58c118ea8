pub mod Canonical
pub mod Labels
pub mod Operators
