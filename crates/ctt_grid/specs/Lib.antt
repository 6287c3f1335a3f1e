pub mod Tables
pub mod CostDelta
pub mod Counts
pub mod Seen
pub mod Grids
pub mod ListSheets
pub mod BoundLaws
