-- Rows as trees, and the walks over them.
pub mod Named
pub mod Membership
pub mod Told
pub mod Ranges
pub mod Roots
pub mod Relations
pub mod Forwards
pub mod Backwards
pub mod WalkSteps
pub mod Beginnings
