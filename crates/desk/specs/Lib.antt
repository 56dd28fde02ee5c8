pub mod Handling
pub mod Seasons
pub mod Steps
