pub mod Costs
pub mod Lengths
