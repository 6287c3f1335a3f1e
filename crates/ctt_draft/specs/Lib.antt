pub mod Drafts
pub mod DraftLaws
pub mod DraftValues
pub mod Undo
pub mod Comparisons
pub mod Replays
pub mod Undoing
