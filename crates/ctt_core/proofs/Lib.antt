pub mod RunLemmas
pub mod OpenDraftLemmas
pub mod DeskLemmas
pub mod StepLemmas
pub mod RanLemmas
pub mod OpeningLemmas
pub mod AuditLemmas
pub mod JournalLemmas
