pub mod Counted
pub mod Placing
pub mod Sorted
pub mod Taking
pub mod Under
pub mod Risen
