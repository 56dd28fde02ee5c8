pub mod Packing
pub mod Stores
