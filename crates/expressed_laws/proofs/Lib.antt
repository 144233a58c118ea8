mod Ands
mod Limits
mod Means
mod Patterns
mod Types
mod Unrefused
