-- What steps from many nodes lead to.
pub mod Steps
pub mod Keeping
pub mod Siblings
pub mod Together
