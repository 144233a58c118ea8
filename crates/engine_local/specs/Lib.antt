pub mod Listing
pub mod Local
pub mod Windows
