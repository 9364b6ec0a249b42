pub mod Ordered
pub mod Spelling
pub mod AttributeNames
