pub mod Newest
pub mod Stores
