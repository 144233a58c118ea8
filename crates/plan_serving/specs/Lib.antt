pub mod Asking
pub mod Filters
pub mod Serving
pub mod ServingLaws
pub mod Stays
