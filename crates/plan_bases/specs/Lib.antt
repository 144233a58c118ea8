pub mod Bases
pub mod LeafLaws
pub mod Leaves
pub mod Looks
pub mod RuleEquality
