pub mod Flags
pub mod CommandLine
pub mod Outlines
pub mod Matched
pub mod Needs
pub mod Jobs
