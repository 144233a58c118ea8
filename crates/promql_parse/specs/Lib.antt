pub mod Build
pub mod Grammar
pub mod Laws
pub mod Parsing
pub mod Reading
