pub mod Penalty
pub mod Hard
pub mod Neighbours
pub mod Windows
pub mod Rows
pub mod Earlier
