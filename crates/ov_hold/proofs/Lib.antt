-- Cells that a seat knows are cells of the table.
pub mod Fitting
-- Each step on a cell keeps the rule.
pub mod Holding
