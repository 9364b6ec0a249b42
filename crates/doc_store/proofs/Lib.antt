-- What the calls of a database rest on.
pub mod Numbers
pub mod Moves
pub mod Loosely
pub mod IdLists
pub mod Branches
pub mod Renumbered
pub mod Siblings
pub mod DocumentPlaces
pub mod DocumentPaths
