pub mod Threads
pub mod Heads
pub mod Jobs
pub mod Inner
pub mod Pairs
pub mod Dealt
pub mod Rans
