-- Where an event leaves a line: whether it may still be judged, and whether it found its key spent.
pub mod Standing
-- What a step and a release make of a lane's share, and what more is known of the keys then.
pub mod Making
-- What the steps of the table answer.
pub mod Replies
-- What each call of the desk but a step of the table leaves: the event, as its trait says, and all that is kept true.
pub mod Leaving
-- What a step of the table leaves: any that a line may ask for.
pub mod Stepping
-- A line that is given up: what it held and owed is let go, one after the other.
pub mod Ending
-- What the fields of the desk keep true, and what its callers are told, after each call.
pub mod Seating
