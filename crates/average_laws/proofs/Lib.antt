mod Rebuilt
mod Splits
