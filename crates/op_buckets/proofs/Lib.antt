pub mod Feeding
pub mod Keeping
pub mod Made
pub mod Orders
pub mod SlotsOrdered
pub mod Splitting
