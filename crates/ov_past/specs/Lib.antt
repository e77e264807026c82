pub mod Pasts
pub mod Holds
