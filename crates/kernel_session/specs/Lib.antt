-- Lines of a script, what is answered to the commands in them, and the replies.
pub mod Lines
pub mod FileCodes
pub mod Workspaces
pub mod Places
pub mod Replies
pub mod ReplyView
pub mod Steps
pub mod LineAnswers
pub mod Exports
pub mod Sessions
pub mod Serving
pub mod Databases
