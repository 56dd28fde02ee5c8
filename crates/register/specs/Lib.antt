pub mod Holding
pub mod Inner
pub mod Newest
