pub mod Bases
pub mod Candidates
pub mod RuleKeys
pub mod Selectors
pub mod Trimming
