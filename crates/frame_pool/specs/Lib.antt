-- What meters tell of work; a pool as a map from frames; what its fields keep.
pub mod Meters
pub mod Frames
pub mod Inner
