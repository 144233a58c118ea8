pub mod Measures
pub mod PlanBounds
pub mod PlanLaws
pub mod TreeBounds
