pub mod Apart
pub mod Recorded
pub mod Cells
pub mod Outcomes
pub mod Pairs
pub mod Picked
