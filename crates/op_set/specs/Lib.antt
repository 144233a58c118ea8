pub mod Combining
pub mod Rising
pub mod Sides
