pub mod Marks
pub mod Window
pub mod History
pub mod Course
pub mod Desk
