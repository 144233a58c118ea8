pub mod Edges
pub mod Listing
pub mod Near
pub mod Spelled
pub mod Steps
pub mod Walks
pub mod Instants
