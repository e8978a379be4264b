pub mod CommandLaws
pub mod ReadsCommands
pub mod Overrides
pub mod Steps
