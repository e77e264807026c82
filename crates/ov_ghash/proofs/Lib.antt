-- Turns and products by Horner's rule are linear, and products may be taken in any order.
pub mod Turning
-- The bits of a number as a list, and the polynomial that they are.
pub mod BitLists
-- Products, powers and sums of the field as products by Horner's rule.
pub mod Field
-- Products by table: four bits of a block at a time, and eight.
pub mod Tables
-- Sums over the bytes of a block, by Horner's rule from the lowest byte on.
pub mod ByBytes
-- Vectors of bytes as numbers, and the rows of the products of half bytes.
pub mod RowFacts
-- A vector of bytes past x^128, byte by byte, and the bytes of its remainder.
pub mod Remainders
-- How the sum follows the blocks as they come.
pub mod Held
-- Products bit by bit, from the first coefficient to the last.
pub mod BitByBit
-- The second test case of the GCM specification (McGrew and Viega; its H, ciphertext and lengths block),
-- from the definitions by computing.
mod Examples
