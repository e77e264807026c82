-- What a step under the lock leaves to link, to unlink and to release.
pub mod Stepping
-- One release after another: each is of what is on its way out and owed, and leaves the rest so.
pub mod Releasing
-- What a command leaves to the seat: once all of it is linked and unlinked, the releases of what nobody holds.
pub mod Settling
-- What a look-up finds is live, and so may be held. A step that is no command makes and removes nothing.
pub mod Looking
-- What a seat holds and owes stands in the table that it finds: so it may ask for the steps of what it holds, and make the
-- releases that it owes.
pub mod Asking
-- What a step leaves to link, to unlink and to hold, act by act, and what is so once all of it is done.
pub mod Tidying
-- What a ticket tells outside: a step, or a release, that was made while the seat was inside.
pub mod Telling
