-- The texts of notes have no fractions, so the printer's text of each is exact.
pub mod NoFloat
-- The test whether keys differ tells exactly whether they do.
pub mod Distinct
-- How texts that follow one another pass through a page.
pub mod Passing
-- The texts of a report's lists, as the texts of their members.
pub mod Texts
-- Counts over the shards.
pub mod Counting
-- A set of what keys seal with has as many members as there are keys exactly where they differ.
pub mod Sets
-- The texts of a report's lines as the pieces that they are put together of.
pub mod Lines
