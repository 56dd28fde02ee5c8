pub mod Sheet
pub mod Raw
pub mod Kinds
pub mod Parts
pub mod Checking
pub mod Checked
pub mod Whole
pub mod Steps
