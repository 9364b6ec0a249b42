-- The rows that an XML text makes, and how the code keeps them.
pub mod Work
pub mod Values
pub mod Table
pub mod Numbers
pub mod Words
pub mod Known
pub mod Fitting
pub mod BuilderView
pub mod Leaving
pub mod Scoping
pub mod Tagging
pub mod Texts
