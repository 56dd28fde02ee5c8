pub mod Calls
pub mod Law
pub mod Follows
pub mod Bounds
pub mod Mixing
