pub mod Apart
pub mod Joins
pub mod Noted
pub mod Places
