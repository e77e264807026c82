-- What a step makes of each cell, and that a lock lets it.
pub mod Becoming
-- No serial stands twice in a table, after a step as before it.
pub mod Apart
-- The key that a look-up holds is still in the table after that step.
pub mod Held
-- Each key that a told table still has is as the journal's key-new with its serial installed it.
pub mod Installed
-- What holds of each key that a table has, holds of each that it has after a step, but for a new key.
pub mod Kept
-- What a step of the definitions is where its peer was found.
pub mod Outcomes
-- A step keeps the record told: the journal stays a run, with its last table and its notes.
pub mod Told
-- Peers that are taken out of the live ones by their serials: which they are, and which are left.
pub mod Picking
-- What one removed peer, and the rest of them, make of the lists.
pub mod Removed
