pub mod Counted
pub mod Marked
pub mod Passing
pub mod Picks
pub mod Reaches
pub mod Reads
pub mod Spent
pub mod Walked
