pub mod Answers
pub mod Runs
pub mod OpenDrafts
pub mod Desks
pub mod Laws
pub mod Openings
pub mod Entries
pub mod Audits
