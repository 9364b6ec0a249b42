-- What cursors give, and rows as a tree.
pub mod Trees
pub mod RowAxes
pub mod Walks
pub mod Cursors
