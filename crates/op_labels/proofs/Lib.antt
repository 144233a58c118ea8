pub mod Feeding
pub mod Keeping
pub mod Passing
pub mod Remaking
