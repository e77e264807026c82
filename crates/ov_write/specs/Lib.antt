pub mod Text
pub mod Listed
