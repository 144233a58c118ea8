pub mod Feeds
pub mod Kernels
pub mod NoteSets
pub mod Rules
pub mod Sliding
