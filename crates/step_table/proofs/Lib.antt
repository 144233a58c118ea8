mod Rising
pub mod Exchanged
pub mod Filters
pub mod Gathers
pub mod Grouped
pub mod Itself
pub mod LabelsWithin
pub mod LoneRows
pub mod Matched
pub mod Members
pub mod Merges
pub mod Ordered
pub mod Partners
pub mod Puts
pub mod Reordered
pub mod Sameness
pub mod Slices
pub mod WellFormedSteps
