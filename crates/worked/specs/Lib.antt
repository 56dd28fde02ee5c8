pub mod Examples
pub mod Standings
pub mod Refusals
pub mod Handing
pub mod Costs
pub mod Judgements
pub mod Lines
