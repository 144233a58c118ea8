mod Spread
mod Laid
