pub mod Elements
pub mod NumberLaws
