-- How bytes are cut, and where a byte of joined bytes stands.
pub mod Cutting
-- Which lines pieces say, and how many of them are wide.
pub mod Lines
-- Bytes of which none gives an event, and what gives none behind them.
pub mod Quiet
-- Where reading halts: at the first event that the bytes give.
pub mod Halting
-- What is known while the lines that a piece ends are read.
pub mod Taking
-- What holds of an answer holds of the one that hands it on.
pub mod Answering
-- How many lines of a stream were found good.
pub mod Goods
-- What the end of a stream gives.
pub mod Last
-- A stream whose lines are read piece by piece.
pub mod Streaming
-- From the lines that were read to what the whole stream shows.
pub mod Judging
