-- Sums of lists of bytes.
pub mod Sums
-- Bytes that differ nowhere.
pub mod Equal
-- The counter blocks: each is the IV and a number.
pub mod Counters
-- One block more of a text.
pub mod Steps
-- The examples that came with GCM for keys of zeros, a nonce of zeros and no associated data, by computing
-- from the definitions: the test cases 1, 2, 13 and 14 of "The Galois/Counter Mode of Operation", by D.
pub mod Vectors
