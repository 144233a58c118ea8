pub mod Causes
pub mod Fetches
pub mod Fronts
pub mod Told
pub mod Written
pub mod Held
