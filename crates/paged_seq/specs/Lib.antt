pub mod Sizes
pub mod Sequences
pub mod Directories
pub mod Parts
