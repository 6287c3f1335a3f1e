pub mod Blocks
pub mod Minutes
pub mod Recovery
