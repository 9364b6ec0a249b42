-- Names by number.
pub mod Names
