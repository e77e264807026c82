pub mod Status
pub mod Clauses
pub mod Told
