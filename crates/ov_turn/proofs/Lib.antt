-- Lists of cells and of entries: what `filter` and `++` do to what is counted in them.
pub mod Members
-- Beginnings of one list.
pub mod Fronts
-- The one slot, as the seat that took it has it.
pub mod Slots
-- What each step does to the cells, on numbers alone.
pub mod CellSteps
-- What one view counts for, and what follows for all of them.
pub mod Counting
-- Each step of the lock keeps the rule.
pub mod Turning
