pub mod Verdict
pub mod Found
pub mod Codes
pub mod Walked
pub mod Checks
