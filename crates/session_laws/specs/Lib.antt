-- What answers determine.
pub mod Determined
