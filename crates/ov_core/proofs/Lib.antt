-- A list of seats in which one changed.
pub mod Seats
-- What a lane's own steps say of it after an event of any lane.
pub mod Moving
-- The seats as an event leaves them.
pub mod Leaving
-- What each call of the desk leaves that makes no step of the table: a draw, a replay step, the give-backs.
pub mod Asking
-- What may be asked of the table: what is held stands there, and what is owed is on its way out.
pub mod Mays
-- A script that runs stays sound with each event of a lane and with each answer.
pub mod Turning
-- An event that a line asked for is the event of the definition.
pub mod Linking
-- Before any turn a script is sound.
pub mod Beginning
-- A script whose lanes are done has a legal report.
pub mod Ending
-- A sound script whose lanes are done gives the parts of a legal report.
pub mod Reporting
-- What is owed, counted: of one serial of a peer or of a key, at the width of numbers.
pub mod Owing
-- What stands once, and what a look-up finds is live.
pub mod There
-- What is owed after each kind of event.
pub mod Balance
-- What every event of every lane keeps true of the world.
pub mod Keeping
-- What is held stands in the table, whatever step of the table is made.
pub mod Staying
-- What each key's counter gives next, after a step of the table and after a draw.
pub mod Nexts
-- The packet ids of each key, over all lanes: each kind of event and an answer keep the count, and it ends as
-- the report's.
pub mod Counting
-- What a line under way asks for, and that it asks for nothing once it is over.
pub mod Ends
-- A script that runs stays sound with what a turn makes: an event of one lane, and the answer of its line.
pub mod Happening
-- A turn that a line took is a turn of the definition, and keeps a script sound.
pub mod Taking
-- Each lane's line stands ready while the lanes take their turns, from the beginning to the end.
pub mod Running
-- A turn at the world as it is kept is a turn of the definition.
pub mod Bridging
-- The courses once one line more was dealt to its lane, and once all are.
pub mod Dealing
-- The courses of all lanes stay a script that runs, whichever of them takes a turn or runs on.
pub mod Coursing
-- What a turn of a walk in the world makes of its course.
pub mod Stepped
-- A line whose turns go on has fewer and fewer turns left.
pub mod Falling
-- A lane's turns up to the end of its line, and its lines up to the last one.
pub mod Whole
-- The world before any turn, and when a line is over.
pub mod Newest
-- What the steps of the table answer, and how much a command takes and removes.
pub mod Acts
-- The releases of what a step took and removed and nobody holds.
pub mod Joining
-- What a step of the table leaves: any that a line may ask for, and a release.
pub mod Calling
-- The report of a script that ran by a schedule.
pub mod Scheduling
-- The report of a script whose lines ran one after the other.
pub mod Serially
-- What the loops over all lanes cite.
pub mod Loops
