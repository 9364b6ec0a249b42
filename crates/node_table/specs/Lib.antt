-- The rows of a table and its pool, what they stand for with names and values, and the geometry of rows.
pub mod Tables
pub mod Views
pub mod Laid
