pub mod Rows
pub mod Walks
pub mod Entered
pub mod CommandSteps
pub mod Taken
pub mod Matches
pub mod Given
