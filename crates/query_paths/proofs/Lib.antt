pub mod Nothing
pub mod Refused
pub mod Codes
