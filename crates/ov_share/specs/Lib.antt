pub mod Shares
pub mod Makings
pub mod Keepings
pub mod Passings
pub mod Inner
pub mod Added
