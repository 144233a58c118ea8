pub mod Asks
pub mod Growth
pub mod Laws
