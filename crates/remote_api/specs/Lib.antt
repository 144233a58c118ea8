pub mod Couriers
pub mod Seen
pub mod Strays
