pub mod Instants
pub mod Rooms
