pub mod Checked
pub mod Frames
pub mod Numbered
pub mod Queried
pub mod Ready
pub mod Walks
