pub mod Columns
pub mod Laws
pub mod Lent
pub mod LentWindows
pub mod Tables
