pub mod Entries
pub mod Ids
pub mod Stages
pub mod Calls
