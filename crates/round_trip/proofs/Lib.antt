-- The proofs of the law that a printed document is read again.
pub mod Values
pub mod Names
pub mod Scopes
pub mod Written
pub mod Characters
pub mod Tags
pub mod Elements
pub mod Printable
pub mod Contents
pub mod CutForests
pub mod Documents
pub mod Heads
pub mod Reading
