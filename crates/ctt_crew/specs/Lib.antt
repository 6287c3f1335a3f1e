pub mod Attending
pub mod CrewFaults
pub mod SeenLaws
