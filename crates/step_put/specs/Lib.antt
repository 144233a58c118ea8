pub mod Clashes
pub mod Feeding
pub mod Placed
pub mod Puts
