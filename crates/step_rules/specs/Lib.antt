pub mod Absent
pub mod Counts
pub mod Frames
pub mod Instants
pub mod Joined
pub mod NewLabels
pub mod Ranked
pub mod Rests
