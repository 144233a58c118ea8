pub mod Instants
pub mod Lasts
pub mod Lefts
pub mod More
pub mod Naming
pub mod Picks
pub mod Shows
