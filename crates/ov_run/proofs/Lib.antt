-- What is known of a run's report, and of the lines that were counted.
pub mod Reporting
-- A text that is written in parts.
pub mod Telling
