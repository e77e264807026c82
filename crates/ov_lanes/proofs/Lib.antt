-- Lanes that are done, each by a pass of its own, make together a legal report.
pub mod Together
-- The entries of the head's lines come first, where each stands in its turn.
pub mod Heads
-- The head's lines, one after the other, and the lines behind it.
pub mod Running
-- What a lane's next line, and all its lines, leave of it.
pub mod Working
-- Lanes that ran some of their lines, or saw more, are at work as before.
pub mod Keeping
-- Lines are dealt to their lanes, and lanes are put together and taken apart.
pub mod Placing
-- Lanes meet, the head's lines run, and then all others.
pub mod Meeting
-- The head's lines run one after the other, and then each lane's.
pub mod Leading
-- All lines were run and the table is closed.
pub mod Ended
