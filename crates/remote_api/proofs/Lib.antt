mod Distinct
mod Following
mod Rising
mod Tested
