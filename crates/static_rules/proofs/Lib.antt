pub mod Kept
pub mod Declarations
pub mod ResolvedUpdating
pub mod Checking
