pub mod Batches
pub mod Bounds
pub mod Engines
pub mod Evaluating
pub mod Planning
pub mod Readiness
