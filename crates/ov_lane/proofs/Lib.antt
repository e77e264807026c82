-- The own entries of a pass stay in order as it makes more.
pub mod Ordering
-- A pass is taken in: of all named entries its own are those with its number.
pub mod Taking
-- Passes are made, and their shares add up.
pub mod Fresh
-- What passes share at the end.
pub mod Gathering
-- What a call keeps of a pass, and a table with one pass.
pub mod Keeping
