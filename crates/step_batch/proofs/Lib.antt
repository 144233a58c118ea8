pub mod Orders
pub mod Slots
pub mod Places
pub mod Lasts
pub mod LentRows
pub mod Slides
pub mod Rows
