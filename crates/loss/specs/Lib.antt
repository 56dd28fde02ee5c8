pub mod Losing
pub mod Verdict
pub mod Firsts
