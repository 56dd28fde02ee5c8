pub mod Holdings
pub mod Changes
pub mod Admissions
