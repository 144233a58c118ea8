pub mod CellLaws
pub mod InOrder
pub mod Joined
pub mod Owed
