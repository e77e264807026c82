-- Words and texts, and their bytes.
pub mod Texts
-- The text of a schedule and its parts between the commas.
pub mod Schedules
-- What clap found for an option that takes a number.
pub mod Numbers
-- What the matches have of MODE and of the schedule.
pub mod Matches
