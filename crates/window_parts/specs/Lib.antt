pub mod Engines
pub mod Over
