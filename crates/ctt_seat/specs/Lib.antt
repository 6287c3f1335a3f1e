pub mod Attended
pub mod CrewText
pub mod Seats
