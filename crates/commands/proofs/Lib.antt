pub mod Words
pub mod Boundaries
pub mod BlankLines
pub mod Slashes
pub mod Readings
