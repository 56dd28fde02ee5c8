pub mod Sorting
pub mod Survey
pub mod Steps
pub mod KeptTrees
