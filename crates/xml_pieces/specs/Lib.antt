-- The pieces of an XML text, and how they are read.
pub mod Readers
pub mod Tokens
pub mod Prolog
pub mod CharBytes
pub mod Item
pub mod Plain
pub mod View
pub mod PrologView
pub mod DeclarationView
