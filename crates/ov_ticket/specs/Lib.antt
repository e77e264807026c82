pub mod Within
pub mod Asks
pub mod Asked
pub mod Tickets
