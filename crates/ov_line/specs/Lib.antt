pub mod Values
pub mod Grammar
pub mod Outcome
pub mod Forms
pub mod Compact
pub mod Digits
