-- The turns of a line, one after the other.
pub mod Turns
-- What each event of a lane's line keeps true of the lane's own steps, and the line's answer.
pub mod Keeping
-- What the events of one line add to a lane's own entries, and what they leave as it was.
pub mod Moving
-- What a lane's desk has made of its share since a line began, and what is left where the line ends.
pub mod Since
-- A lane's lines, one after the other.
pub mod Following
