pub mod Desks
pub mod Parts
pub mod Walks
pub mod Stages
