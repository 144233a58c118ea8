pub mod Keeping
pub mod Lone
pub mod Making
pub mod Owned
pub mod Putting
pub mod Sharing
