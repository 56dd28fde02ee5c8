pub mod Pigeons
mod Judging
