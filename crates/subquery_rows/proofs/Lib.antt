pub mod Alike
pub mod Giving
pub mod Lending
pub mod Reordered
pub mod Standing
