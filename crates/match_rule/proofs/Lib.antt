pub mod Cuts
pub mod Finders
pub mod Numbers
pub mod Passing
pub mod Searches
pub mod Words
