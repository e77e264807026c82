-- What the definitions of a peer id and a key id compute to.
pub mod PeerIds
-- What the attribute checks never make of a netlink message: a tick is the clock's alone.
pub mod Checks
-- A journal that goes on: what its last table, notes and steps are after more entries.
pub mod Going
-- A lane goes on: more steps of the line under way, and the line's answer.
pub mod Lanes
-- How often a number stands in a list.
pub mod Times
-- The first member of a list that fits: it is found, changed, or taken out.
pub mod Firsts
-- The peers by rising id, and the members of a list that pass a test and those that don't: sums over them, and
-- what holds of all of them.
pub mod Parts
-- What holds of each outcome that a step may have holds of the step.
pub mod StepCases
-- What a step tells: whom it removed, with its notes, and which ids the live peers have after it.
pub mod Shapes
-- What the steps of the peer table do to the dying peers and the retired keys.
pub mod Removing
-- Of each serial of a peer or of a key: what a step makes, what it takes out and what is left.
pub mod KeysTaken
-- No key is killed twice in a run: a killed key leaves its slot.
pub mod Kills
-- Each removed peer and each killed key of a run is told of by its note.
pub mod Noted
-- A run without a dying peer or a retired key at its end let each of them go exactly once.
pub mod Freed
-- How the floor, the verdict and a shard's steps change as one more comes at the end.
pub mod ReplayLemmas
-- Packet ids that are the numbers from the first on, in order.
pub mod Counting
-- No packet id of a key is accepted twice in a legal report.
pub mod ReplayLaw
-- A nonce tells its packet id and its tail; and where an id of a key counts once at most, it stands at one
-- place.
pub mod Nonces
-- No nonce is used twice under the same bytes of a key, where no two keys seal with the same bytes and
-- tail.
pub mod NonceLaw
-- Each sealed datagram of a legal report was sealed with a key that the history installed, and each ping for
-- the peer that was due.
pub mod SealedLaw
-- The entries and the replay steps of one line, found in the report, and a run's reply at a place.
pub mod Places
-- A received datagram is delivered exactly where its parts say so.
pub mod DeliveryLaw
-- Where the serials of peers and keys stand, and how a run moves each: it is made once, stands at most
-- once, and is named only where it stands.
pub mod Tallies
-- A peer or a key that was let go is named by no later entry: its serial was made and stands nowhere any
-- more.
pub mod LifetimeLaw
-- What a lane's own steps say of all steps: a lane that is done by its own steps is done.
pub mod Mine
-- Members that are named by their positions: they stay as the list grows, and all positions of a test's
-- members pick what the test keeps.
pub mod Picked
-- A lane that stands by its own steps: other lanes' steps change nothing, one more step or replay step of
-- its own, the line's answer, and its end.
pub mod Stands
-- The worked examples, by computing from the definitions.
pub mod Examples
