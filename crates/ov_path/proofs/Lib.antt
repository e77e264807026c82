-- How a line begins: by its head, and never with what was sealed.
pub mod Beginning
-- A line that is over: its events and its answer have a path.
pub mod Ending
-- One event more: where it leaves the line, which due peers are left, its columns, and what is owed.
pub mod Seeing
-- A tick goes on: each event of its pings leads from one stage to the next.
pub mod Ticks
-- A line that runs goes on: each event leads from one stage to the next.
pub mod Going
-- A tag that verifies opens its datagram.
pub mod Opening
-- The event that a turn makes is the one that comes next, and it is the line's own.
pub mod Making
