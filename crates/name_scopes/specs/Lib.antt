pub mod Kept
pub mod Declares
