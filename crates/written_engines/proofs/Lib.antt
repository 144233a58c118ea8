mod Loading
mod Untold
