pub mod Clamps
pub mod Faults
pub mod Halves
pub mod Numbers
pub mod Rounding
