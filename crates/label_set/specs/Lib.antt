pub mod LabelEquality
pub mod LabelLaws
pub mod LabelOrder
pub mod LabelText
pub mod Labels
pub mod Entries
pub mod Spans
