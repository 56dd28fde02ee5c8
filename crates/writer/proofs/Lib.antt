mod Writes
mod Rebuilds
mod Fits
pub mod Spellings
