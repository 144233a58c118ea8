pub mod FilteredSelectors
pub mod Insertion
pub mod NodeMeanings
pub mod Rebuilding
pub mod RuleLaws
pub mod RuleLists
pub mod RulesSplit
