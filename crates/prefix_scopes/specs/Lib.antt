pub mod Few
pub mod Places
pub mod Scoping
