-- What a map's own test of its keys says of names.
pub mod Keys
-- The members of a list with holes: the one that fits is found, changed or taken out where it stands.
pub mod Slots
-- What the maps of an index say of its places, and that they go on saying it.
pub mod Held
-- The index goes on saying the truth where one peer is changed or taken out.
pub mod Changed
-- Lists that rise strictly by a number: a sort makes the one that the definition names.
pub mod Rising
-- What the other live peers have: the maps say it, and what they haven't a peer may take.
pub mod Others
-- A member of a list with holes that is taken out, changed and put back at its place.
pub mod Back
-- A list of those that are gone goes on saying the truth of its places as one joins and one is taken out.
pub mod Listed
-- A live peer that is taken out at the place of its serial, changed and put back, and what an index is then.
pub mod Returned
-- What is asked of the live peers, with and without the id by which it is put in order.
pub mod Asked
-- How many stand at the places, as one joins, leaves or comes back.
pub mod Counted
