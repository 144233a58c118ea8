pub mod MarkSets
pub mod Scalars
pub mod Sides
