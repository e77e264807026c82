-- Counting draws, and what one more draw changes.
pub mod Counts
-- Each step keeps the draw rule, and tells its caller what its clause says.
pub mod Keeps
-- Lists in which each number of an interval stands once, and no other number: how long they are.
pub mod Intervals
