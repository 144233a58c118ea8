pub mod Engines
pub mod Gathering
pub mod Laws
pub mod Parts
