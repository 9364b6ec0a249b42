-- Commands, as lines hold them.
pub mod CommandCodes
pub mod Commands
pub mod CommandView
