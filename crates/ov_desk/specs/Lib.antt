pub mod Sittings
pub mod Kept
