pub mod Index
pub mod Gone
pub mod Names
pub mod Ticks
