pub mod Agreeing
pub mod Gathers
pub mod LocalLaws
pub mod Locals
pub mod PartLaws
pub mod Parted
pub mod Portions
