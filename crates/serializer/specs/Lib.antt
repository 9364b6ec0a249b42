-- What becomes of bytes that are written to, what is in scope, and what is left of a node that is partly printed.
pub mod Growth
pub mod Numbered
pub mod Opened
pub mod Scopes
