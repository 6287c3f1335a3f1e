pub mod WeekLemmas
pub mod EscapeLemmas
pub mod BySlotLemmas
pub mod TextLemmas
pub mod StandingLemmas
