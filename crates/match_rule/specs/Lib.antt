pub mod Building
pub mod Gains
pub mod Patterns
