pub mod Groups
pub mod Histograms
pub mod Rules
pub mod SlotOrders
pub mod Splits
