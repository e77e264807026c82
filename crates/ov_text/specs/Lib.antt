pub mod Pieces
pub mod Views
pub mod Replies
pub mod Sealed
