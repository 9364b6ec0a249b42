-- What reads and writes do.
pub mod Outer
pub mod Memory
pub mod Calm
pub mod Files
pub mod MemoryFiles
pub mod CalmFiles
