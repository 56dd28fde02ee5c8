pub mod Numbers
pub mod Reading
pub mod Taking
pub mod Fronts
pub mod Tallies
pub mod Checks
pub mod Sounding
pub mod Single
