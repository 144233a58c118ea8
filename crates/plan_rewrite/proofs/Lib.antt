pub mod Rebuilds
