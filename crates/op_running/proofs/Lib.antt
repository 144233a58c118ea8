pub mod Keeping
pub mod LostSums
pub mod Picks
pub mod Sums
pub mod Tails
