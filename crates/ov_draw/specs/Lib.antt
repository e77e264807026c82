pub mod Drawer
pub mod Rule
pub mod Steps
pub mod Fields
