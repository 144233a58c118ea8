pub mod Choosing
pub mod Feeding
pub mod Making
pub mod Named
pub mod Rises
