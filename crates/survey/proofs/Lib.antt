mod Basics
mod Finishes
mod KeptTrees
mod Loops
mod Puts
mod Relaxes
mod Swaps
