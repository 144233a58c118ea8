pub mod Asked
pub mod Opts
pub mod Commands
pub mod Engines
pub mod Said
pub mod Says
pub mod Tells
pub mod Views
