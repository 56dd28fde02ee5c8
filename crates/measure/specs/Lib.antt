pub mod Measure
pub mod Lengths
pub mod Fillings
pub mod Flats
pub mod Eithers
pub mod Combining
