pub mod Scores
pub mod Wishes
pub mod Between
