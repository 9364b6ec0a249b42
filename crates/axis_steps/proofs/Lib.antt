-- How steps from many nodes are walked.
pub mod DocumentOrder
pub mod Having
pub mod Nesting
pub mod Standing
pub mod Keeping
pub mod Brothers
pub mod Leading
pub mod Together
pub mod TestRows
pub mod Descendants
