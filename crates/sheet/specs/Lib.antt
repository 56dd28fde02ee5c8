pub mod Meaning
pub mod Standing
pub mod Shapes
pub mod Compiled
pub mod Held
pub mod Leaves
pub mod Belonging
