pub mod Casts
pub mod Digits
pub mod Growing
pub mod Sizes
