pub mod Askable
pub mod Beneath
pub mod Giving
pub mod Handed
pub mod Made
pub mod Ranges
pub mod Taking
