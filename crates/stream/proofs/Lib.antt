pub mod Fronts
pub mod Writes
pub mod Numerals
pub mod Hexes
