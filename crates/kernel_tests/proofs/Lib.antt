pub mod Follows
mod Times
