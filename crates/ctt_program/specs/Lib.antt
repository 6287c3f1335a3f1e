pub mod Desks
pub mod Jobs
pub mod Seats
pub mod Served
pub mod Streams
