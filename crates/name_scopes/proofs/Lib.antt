pub mod Bindings
pub mod Declarations
