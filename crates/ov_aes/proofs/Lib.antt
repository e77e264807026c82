-- The bytes of a word: of a sum of words, and of a word made of bytes.
pub mod Bytes
-- Tables hold what the standard says, by computing each entry.
pub mod TableFacts
-- The key schedule word by word.
pub mod Schedules
-- An array of words that is filled from the front, with zeros behind.
pub mod Filled
-- The example vectors of FIPS 197, appendix C, by computing from the definitions.
pub mod Vectors
-- What AES makes of a block has 16 bytes.
pub mod Lengths
-- Vectors of bytes, lane by lane.
pub mod NibbleFacts
-- A round on a vector of the state's 16 bytes in the inner form, against the round of the standard.
pub mod RoundFacts
-- The round keys as they are kept.
pub mod KeptFacts
-- The state from round to round, in the inner form.
pub mod States
