-- What is read of a text, and what becomes of bytes that are written to.
pub mod Growth
pub mod Reads
