pub mod Handing
pub mod Keys
pub mod RuleOrder
pub mod Sides
