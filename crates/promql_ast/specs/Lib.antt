pub mod Depth
pub mod Edged
pub mod EdgedFolds
pub mod Folds
pub mod Parts
pub mod Refusals
