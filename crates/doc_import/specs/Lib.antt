-- What an import gives, and how a text is read.
pub mod Heads
pub mod Subsets
pub mod Machine
pub mod Found
pub mod Imported
pub mod Stopping
