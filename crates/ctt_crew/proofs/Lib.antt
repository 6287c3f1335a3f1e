pub mod AttendLemmas
pub mod CrewLemmas
pub mod SeenLemmas
