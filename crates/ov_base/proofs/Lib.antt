-- What becomes of a sum over a list, and of a fact of each member, where one member changes or one more is
-- appended.
pub mod Sums
