-- Ids, the pre numbers at which they stand, and runs of them.
pub mod Ids
pub mod Spans
pub mod Changes
