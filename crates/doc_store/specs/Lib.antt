-- Databases as their fields, what calls make of them, and their documents by paths and places.
pub mod Stored
pub mod Moving
pub mod Places
pub mod Documents
