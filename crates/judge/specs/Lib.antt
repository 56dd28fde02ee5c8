pub mod Judging
pub mod Judged
pub mod Labels
pub mod Pairs
pub mod Pairing
pub mod Trying
pub mod Places
