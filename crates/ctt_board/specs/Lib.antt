pub mod Changes
pub mod Cells
pub mod Boards
pub mod Costs
pub mod Ways
pub mod Fitting
