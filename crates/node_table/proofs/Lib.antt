pub mod Parents
pub mod Entries
pub mod NodeRows
pub mod Geometry
pub mod KeptKinds
