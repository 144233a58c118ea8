pub mod Adding
pub mod Courses
pub mod Gathered
pub mod Gives
pub mod Laws
pub mod Parts
pub mod Requested
