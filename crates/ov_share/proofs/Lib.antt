-- Two histories of which each begins the other are one.
pub mod Fronts
-- At the end every peer and key that is gone was let go.
pub mod LetGo
-- What a line's events add to the lane's own entries.
pub mod Adding
