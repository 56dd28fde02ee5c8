pub mod Refusals
pub mod Forest
pub mod Reading
pub mod Steps
pub mod Events
pub mod Handing
