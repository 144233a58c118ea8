pub mod Laws
pub mod OwedCells
pub mod Places
pub mod Rules
pub mod Tallies
