pub mod Binaries
pub mod Laws
pub mod Unaries
