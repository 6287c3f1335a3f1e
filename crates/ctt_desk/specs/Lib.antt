pub mod Names
pub mod Books
pub mod Faults
pub mod Histories
pub mod Planners
pub mod Published
pub mod Refusals
