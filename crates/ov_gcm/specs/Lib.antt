pub mod Gcm
pub mod Steps
