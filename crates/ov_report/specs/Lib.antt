pub mod Print
pub mod Summary
pub mod Sealing
pub mod Printing
