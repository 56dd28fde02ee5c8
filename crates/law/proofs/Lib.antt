pub mod Lists
pub mod Told
pub mod Seasons
pub mod Counting
pub mod Determined
pub mod Bounds
pub mod Mixed
