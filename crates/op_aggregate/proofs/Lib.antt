pub mod Alike
pub mod AtPlaces
pub mod Feeding
pub mod Grouping
pub mod Made
pub mod OneByOne
pub mod Owing
pub mod Tallying
