pub mod Polynomial
pub mod Block
pub mod Turn
pub mod Rows
pub mod Parts
pub mod Ghash
