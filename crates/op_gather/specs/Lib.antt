pub mod Cells
pub mod Histories
pub mod Joined
pub mod Joins
pub mod Laws
pub mod Queues
