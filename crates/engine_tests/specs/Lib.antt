pub mod Askable
pub mod Going
