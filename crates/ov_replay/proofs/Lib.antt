-- What contracts see of a desk and of its seats, from the locks and their seats side by side.
mod Seating
-- The seats of shards side by side, one shard further: cut, put together, locked and closed.
mod Sides
-- A list that is written at one place, what contracts see of seats side by side, and a history that is one shard's.
mod Places
-- A bit that is set or cleared in a list of words: place p is bit p mod 64 of word p / 64.
mod RingLemmas
-- What the windows of some keys stand for, and what they stand for after a step.
mod CourseLemmas
-- What a window knows of the list that it stands for, and what it stands for after an accept.
mod WindowLemmas
