pub mod Worlds
pub mod Sessions
pub mod Sounds
pub mod Seats
pub mod Ready
pub mod Courses
pub mod Scripts
pub mod Measure
