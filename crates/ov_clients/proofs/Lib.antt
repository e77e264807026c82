-- From what each of two threads has drawn, and from what the one seat that is left knows, to the ids of
-- both.
pub mod Ids
-- Entries of one thread, in order, and what one more changes.
pub mod Orders
-- Which of two that give a hold back was the last.
pub mod Lasts
-- Two passes of one table before and after a call each.
pub mod Passes
