pub mod CallRuns
pub mod FrameLemmas
pub mod DraftSteps
pub mod CheckLemmas
pub mod FirstLemmas
pub mod StaleLemmas
pub mod HeldLemmas
pub mod UndoLemmas
mod UndoingLemmas
pub mod CompareLemmas
pub mod ReplayLemmas
pub mod RefreshLemmas
