pub mod Stream
pub mod Written
pub mod Line
pub mod Writing
