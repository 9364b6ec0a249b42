-- The order of the pieces of an XML text.
pub mod Body
pub mod Shape
pub mod Cuts
pub mod NamesView
pub mod Gives
pub mod ControlView
