pub mod LabelLemmas
pub mod Texts
pub mod Sameness
pub mod Marks
pub mod SpanLemmas
pub mod PairSteps
