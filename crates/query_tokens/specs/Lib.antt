pub mod Reads
pub mod Descends
pub mod CommentEnds
