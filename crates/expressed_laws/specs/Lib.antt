pub mod Expressions
pub mod Induction
