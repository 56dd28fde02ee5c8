pub mod Walks
pub mod Stretches
pub mod Forms
pub mod Unique
pub mod Parses
pub mod Coming
pub mod Numbers
